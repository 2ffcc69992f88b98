use Rattle.std.proofs.Common.{◌≡◌, ◌∙◌, ap, sym}
use Rattle.h26x_profile.specs.Pattern.{matches}
use Rattle.h26x_profile.proofs.PatternLemmas.{eight_joined, eight_equal}
use Rattle.h26x_profile.proofs.bit_pattern.BitPattern.matches.Goals as goal

pub returns : goal.returns
returns c =
    let same : c.args.self.now ≡ c.self.inside.places = search (c.self.view_is, sym c.self.view_is) in
    eight_joined c.takes.result c.takes-2.result c.takes-3.result c.takes-4.result c.takes-5.result c.takes-6.result c.takes-7.result c.takes-8.result
    ∙ eight_equal c.self.inside.places c.args.value c.takes.ensures c.takes-2.ensures c.takes-3.ensures c.takes-4.ensures c.takes-5.ensures c.takes-6.ensures c.takes-7.ensures c.takes-8.ensures
    ∙ ap (λ places. matches places c.args.value) (sym same)
