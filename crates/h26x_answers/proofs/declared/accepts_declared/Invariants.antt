use Rattle.std.proofs.Common.{◌≡◌, drop}
use Rattle.h26x_answers.specs.Answers.{rules_of}
use Rattle.h26x_answers.specs.DeclaredFormats.{accepts_declared}
use Rattle.h26x_answers.proofs.declared.accepts_declared.Given as goal

abbrev pub invariant-loop-own : goal.invariant-loop-own
invariant-loop-own g l = accepts_declared (rules_of l.config.rules g.P.CodecParameter.rows g.P.CodecRules.roles g.P.CodecRules.terms g.P.CodecRules.known g.P.CodecRules.fault g.P.CodecRules.reorders g.P.CodecRules.usages) (g.P.CodecDeclared.takes l.config.rules) l.config l.declared (drop l.own-index l.ours) ≡ accepts_declared (rules_of l.config.rules g.P.CodecParameter.rows g.P.CodecRules.roles g.P.CodecRules.terms g.P.CodecRules.known g.P.CodecRules.fault g.P.CodecRules.reorders g.P.CodecRules.usages) (g.P.CodecDeclared.takes l.config.rules) l.config l.declared l.ours
