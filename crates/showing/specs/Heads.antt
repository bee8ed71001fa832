-- How the first bytes of an image are written.
use Rattle.std.specs.Prelude.{ℕ, ◌^◌, ◌-◌, false, List, [], ◌++◌, codes}
use Rattle.std.specs.Fmt.{digits, padded_integral, format_spec}
use Rattle.std.specs.List.{flat_map}

-- a blank and two digits to the base 16, with noughts before
abbrev pub byte_text : ℕ → List ℕ
byte_text b = codes " " ++ padded_integral (format_spec 32 0 4 2 (2 ^ 64 - 1)) false [] (digits 16 false b)

abbrev pub bytes_text : List ℕ → List ℕ
bytes_text = flat_map byte_text
