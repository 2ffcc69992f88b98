use Rattle.std.proofs.Common.{◌≡◌, drop}
use Rattle.h26x_answers.specs.Answers.{rules_in, offer_answer}
use Rattle.h26x_answers.proofs.answer.answer_to.Given as goal

abbrev pub invariant-loop-format : goal.invariant-loop-format
invariant-loop-format g l = offer_answer (rules_in l.config g.P.CodecParameter.rows g.P.CodecRules.roles g.P.CodecRules.terms g.P.CodecRules.multicast_terms g.P.CodecRules.known g.P.CodecRules.fault g.P.CodecRules.reorders g.P.CodecRules.usages) l.config (drop l.format-index l.offer) l.ours ≡ offer_answer (rules_in l.config g.P.CodecParameter.rows g.P.CodecRules.roles g.P.CodecRules.terms g.P.CodecRules.multicast_terms g.P.CodecRules.known g.P.CodecRules.fault g.P.CodecRules.reorders g.P.CodecRules.usages) l.config l.offer l.ours
