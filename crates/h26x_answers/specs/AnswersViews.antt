-- What terms of the code say.
use Rattle.h26x_fmtp.specs.ParametersViews.{value_view}
use Rattle.h26x_answers.specs.Answers as answer
use Rattle.h26x_answers.specs.declared.answer.Terms.{Terms}

abbrev pub terms_view : Terms → answer.Terms
terms_view it = record {
  level = value_view it.level;
  highest = value_view it.highest;
  asymmetric = it.asymmetric;
  reorders = it.reorders;
  sets = it.sets;
  level_sets = it.level_sets;
}
