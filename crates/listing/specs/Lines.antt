-- Printed lines, each with its line end. Assumes nothing.
use Rattle.std.specs.Prelude.{ℕ, List, [], ◌∷◌, ◌++◌, Ok, Err, codes, decimal}
use Rattle.settings.specs.Refusals.{run_number}
use Rattle.run.specs.declared.answer.Outcome.TheVariants.{Hit, Fault, Replaced, Released}
use Rattle.run.specs.declared.answer.Figures.{Figures}
use Rattle.run.specs.Answers.{EventAnswer}

-- the answer to an event of page p; an accepted release prints nothing
abbrev pub answer_line : ℕ → EventAnswer → List ℕ
answer_line p (Ok Hit) = codes "h " ++ (decimal p ++ 10 ∷ [])
answer_line p (Ok Fault) = codes "f " ++ (decimal p ++ 10 ∷ [])
answer_line p (Ok (Replaced q)) = codes "f " ++ (decimal p ++ (codes " " ++ (decimal q ++ 10 ∷ [])))
answer_line p (Ok Released) = []
answer_line p (Err f) = codes "no " ++ (decimal (run_number f) ++ 10 ∷ [])

abbrev pub end_line : Figures → List ℕ
end_line n = codes "end " ++ (decimal n.touches ++ (codes " " ++ (decimal n.faults ++ (codes " " ++ (decimal n.outs ++ 10 ∷ [])))))
