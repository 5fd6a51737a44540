-- The rules that a check of a proof goes by, where there may be more than one set of them: the scratch asked for, and whether steps may follow an
-- empty clause. Definitions that judge, run and answer take them first.
use Rattle.std.specs.Prelude.{ℕ, Bool, true, false}
use Rattle.dependency.specs.Scratch.{scratch_bound, small_bound}

-- `scratch` is in bytes; by `strict` rules no step may follow an empty clause (02, P10).
pub record Rules : Type 0 where
  pub scratch : ℕ
  pub strict : Bool

-- The rules of the checker: no step follows an empty clause.
abbrev pub plain_rules : Rules
plain_rules = record { scratch = scratch_bound; strict = true }

-- The same rules, strict or not; and the checker's without 02's P10, by which steps may follow an empty clause.
abbrev pub ending : Bool → Rules → Rules
ending strict rules = record { scratch = rules.scratch; strict = strict }

abbrev pub former_rules : Rules
former_rules = ending false plain_rules

-- The same rules where another scratch is asked for; and the checker's with the scratch of the small entry.
abbrev pub resized : ℕ → Rules → Rules
resized n rules = record { scratch = n; strict = rules.strict }

abbrev pub small_rules : Rules
small_rules = resized small_bound plain_rules
