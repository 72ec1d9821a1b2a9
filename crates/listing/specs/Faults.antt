-- How a text that is not played is told. Assumes nothing.
use Rattle.std.specs.Prelude.{ℕ, List, [], ◌∷◌, ◌++◌, Some, None, Ok, Err, codes, decimal, string_bytes, Option, Result, String}
use Rattle.std.specs.declared.alloc.Global.{Global}
use Rattle.settings.specs.Refusals.{run_number}
use Rattle.listing.specs.declared.fault.TextFault.{TextFault}
use Rattle.listing.specs.declared.fault.TextFault.TheVariants.{NoPolicy, Malformed, NoFrames, TooFewNumbers, Refused, OutOfMemory}

abbrev pub fault_text : TextFault → List ℕ
fault_text NoPolicy = codes "no policy: the first word is fifo, lru or clock"
fault_text (Malformed b) = codes "malformed input: byte " ++ (decimal b.at ++ codes " is part of no number below 4294967296")
fault_text NoFrames = codes "no frames: the first number says how many there are"
fault_text TooFewNumbers = codes "too few numbers: the frames and the size of the front queue come first"
fault_text (Refused f) = codes "no " ++ decimal (run_number f)
fault_text (OutOfMemory e) = codes "out of memory"

-- the line of a fault
abbrev pub fault_line : TextFault → List ℕ
fault_line e = fault_text e ++ 10 ∷ []

-- what is told of a text: its lines, or its fault's line, and nothing where memory ran out
abbrev pub told_of : Result (String Global) TextFault → Option (List ℕ)
told_of (Ok s) = Some (string_bytes s)
told_of (Err (OutOfMemory e)) = None
told_of (Err e) = Some (fault_line e)
