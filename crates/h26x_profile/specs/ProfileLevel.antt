-- A profile and a level.

-- a profile and a level
pub record ProfileLevel (P L : Type 0) : Type 0 where
  pub profile : P
  pub level : L
