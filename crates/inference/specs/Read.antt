-- What the code reads of a step: its kind, where its statement begins and is closed, its fields, and the place after it.
-- Steps.antt has what a step is; that the two agree is in Read/Laws.antt.
pub mod Laws
use Rattle.std.specs.Prelude.{Option as Optional, Some, None}
use Rattle.std.specs.Prelude.{ℕ, ◌+◌, Bool, true, false, length, get_or, ℤ, pos}
use Rattle.std.proofs.Math.Option.{Option, none, some}
use Rattle.formula.specs.Decode.{first_clause}
use Rattle.inference.specs.declared.read.Family.{Family}
use Rattle.inference.specs.declared.read.Family.TheVariants.{Ordinary, LongDistance}
use Rattle.inference.specs.declared.read.StepKind.{StepKind}
use Rattle.inference.specs.declared.read.StepKind.TheVariants.{Resolution, Reduction}
use Rattle.inference.specs.declared.read.StepRead.{StepRead}
use Rattle.inference.specs.Words.{Words, closes}
use Rattle.inference.specs.Steps.{Step, resolution, reduction, size_of, Kind, resolves, reduces, other, kind_of}

abbrev pub kind_read : Kind → Optional StepKind
kind_read resolves = Some Resolution
kind_read reduces = Some Reduction
kind_read other = None

abbrev pub kind_is : Family → ℤ → Optional StepKind
kind_is f w = kind_read (kind_of f w)

-- Where a step of this kind begins its statement, the step's first word standing at `at`.
abbrev pub statement_by : ℕ → StepKind → ℕ
statement_by at Resolution = at + 4
statement_by at Reduction = at + 3

-- The first of two kinds that is one.
abbrev pub or_kind : Kind → Kind → Kind
or_kind resolves k = resolves
or_kind reduces k = reduces
or_kind other k = k

-- The kind of a word in whichever family has it.
abbrev pub any_kind : ℤ → Kind
any_kind w = or_kind (kind_of Ordinary w) (kind_of LongDistance w)

-- Where the statement of a step of this kind begins, the step's first word standing at `at`; the place itself where none does.
abbrev pub statement_from : ℕ → Kind → ℕ
statement_from at resolves = at + 4
statement_from at reduces = at + 3
statement_from at other = at

unfoldable pub statement_of : Words → ℕ → ℕ
statement_of steps at = statement_from at (any_kind (get_or steps at (pos 0)))

abbrev pub close_if : Bool → ℕ → Optional ℕ
close_if true n = Some n
close_if false n = None

-- The words `ws` stand at the place `from`.
unfoldable pub closed_at : ℕ → Words → Optional ℕ
closed_at from ws = close_if (closes ws) (from + length (first_clause ws) + 1)

-- A step that stands at `at`, laid out in fields. A reduction has no second antecedent: 0.
abbrev pub fields_of : ℕ → Step → StepRead
fields_of at (resolution f i j e L) =
    record { kind = Resolution; family = f; first = i; second = j; pivot = e; statement = at + 4; next = at + size_of (resolution f i j e L) }
fields_of at (reduction f i a L) =
    record { kind = Reduction; family = f; first = i; second = pos 0; pivot = a; statement = at + 3; next = at + size_of (reduction f i a L) }

abbrev pub reading_of : ℕ → Option Step → Optional StepRead
reading_of at none = None
reading_of at (some s) = Some (fields_of at s)

-- The step that the fields and the statement make up.
abbrev pub step_by : StepKind → StepRead → Words → Step
step_by Resolution r L = resolution r.family r.first r.second r.pivot L
step_by Reduction r L = reduction r.family r.first r.pivot L

abbrev pub step_of : StepRead → Words → Step
step_of r L = step_by r.kind r L
