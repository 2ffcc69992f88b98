use Rattle.std.proofs.Common.{◌≡◌, drop}
use Rattle.h26x_answers.specs.Answers.{rules_in, answer_of}
use Rattle.h26x_answers.proofs.answer.answer_format.Given as goal

abbrev pub invariant-loop-own : goal.invariant-loop-own
invariant-loop-own g l = answer_of (rules_in l.config g.P.CodecParameter.rows g.P.CodecRules.roles g.P.CodecRules.terms g.P.CodecRules.multicast_terms g.P.CodecRules.known g.P.CodecRules.fault g.P.CodecRules.reorders g.P.CodecRules.usages) l.config l.offered (drop l.own-index l.ours) ≡ answer_of (rules_in l.config g.P.CodecParameter.rows g.P.CodecRules.roles g.P.CodecRules.terms g.P.CodecRules.multicast_terms g.P.CodecRules.known g.P.CodecRules.fault g.P.CodecRules.reorders g.P.CodecRules.usages) l.config l.offered l.ours
