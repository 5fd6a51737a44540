-- How a call of `read` that failed is told to the reading: by an error number. Assumes nothing.
use Rattle.std.specs.Prelude.{◌≡◌, ◌↔◌, true, ℤ}
use Rattle.std.specs.declared.io.ErrorKind.{ErrorKind}
use Rattle.std.specs.declared.io.ErrorKind.TheVariants.{Interrupted}
use Rattle.files.specs.Reading.{interrupted}

-- The number is an interruption's exactly where the error's kind is.
abbrev pub IsNumberOf : ErrorKind → ℤ → Type 0
IsNumberOf kind error = (kind ≡ Interrupted) ↔ (interrupted error ≡ true)
