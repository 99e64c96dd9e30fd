-- Document 02's numbers for a refused minute or window file.
use Rattle.std.specs.Prelude.{Result, Ok, Err, ℕ}
use Rattle.hours.specs.declared.Fault.{Fault}
use Rattle.hours.specs.declared.Fault.TheVariants.{Early, Outside, Windows}

abbrev pub number : Fault → ℕ
number Early = 21
number Outside = 22
number Windows = 23

-- the number of a check's answer; 0 where nothing is refused
abbrev pub number_or_0 : Result Unit Fault → ℕ
number_or_0 (Ok u) = 0
number_or_0 (Err f) = number f
