-- Worked cases: overlaps of jobs, with the answer of each call and the numbers of executions, as one table. Each starts a new book over a store of two
-- objects, with limit 16. An object that is imaged was locked to write.
use Rattle.std.specs.Prelude.{◌≡◌, ℕ, Bool, true, ◌&&◌, List, [], ◌∷◌, ◌++◌, length, Some, None, Option, ◌==◌}
use Rattle.terms.specs.declared.modes.Mode.{Mode}
use Rattle.terms.specs.declared.modes.Mode.TheVariants.{Read, Write}
use Rattle.terms.specs.declared.calls.Call.{Call}
use Rattle.terms.specs.declared.calls.Call.TheVariants.{Begin, Lock, Image, Commit, Abort}
use Rattle.terms.specs.Rule.{Rule}
use Rattle.protocol.specs.declared.refusals.Refusal.{Refusal}
use Rattle.protocol.specs.Model.{Model, new, executions_of}
use Rattle.protocol.specs.Refusals.{refusal_number}
use Rattle.protocol.specs.Step.{answer, step}

-- 0 for accepted, or the number of the refusal
abbrev pub answer_number : Option Refusal → ℕ
answer_number None = 0
answer_number (Some x) = refusal_number x

-- a call with the number that it is answered, or how many executions the job at a place has then
pub data Line : Type 0 where
  says : Call → ℕ → Line
  runs : ℕ → ℕ → Line

-- lines that are to follow from a new book with this robustness
pub record Case : Type 0 where
  pub robustness : ℕ
  pub lines : List Line

-- a job begins at place p
abbrev begins : ℕ → Line
begins p = says (Begin p 1 1) 0

-- job p locks object o, and is answered n
abbrev reads : ℕ → ℕ → ℕ → Line
reads p o n = says (Lock p o Read) n

-- the same, to write
abbrev writes : ℕ → ℕ → ℕ → Line
writes p o n = says (Lock p o Write) n

-- job p commits, or would, and is answered n
abbrev commits : ℕ → ℕ → Line
commits p n = says (Commit p) n

-- job p aborts, or would, and is answered n
abbrev aborts : ℕ → ℕ → Line
aborts p n = says (Abort p) n

-- job p locks object o to write and images it
abbrev images : ℕ → ℕ → List Line
images p o = writes p o 0 ∷ says (Image p o) 0 ∷ []

-- four jobs, one after another, image object 0
abbrev four_images : List Line
four_images = (begins 0 ∷ images 0 0) ++ (begins 1 ∷ images 1 0) ++ (begins 2 ∷ images 2 0) ++ (begins 3 ∷ images 3 0)

-- the fourth of four jobs that image one object has n executions
abbrev fourth_has : ℕ → ℕ → Case
fourth_has robustness n = record { robustness = robustness; lines = four_images ++ runs 3 n ∷ [] }

-- a fifth has sixteen executions and images the object too; a sixth would have more than the limit
abbrev sixth_is_too_much : Case
sixth_is_too_much = record { robustness = 120; lines = four_images ++ (begins 4 ∷ images 4 0) ++ runs 4 16 ∷ begins 5 ∷ reads 5 0 14 ∷ writes 5 0 14 ∷ [] }

-- job 0 images two objects; job 1 locks both, and is before or after job 0 with both, never between
abbrev no_mixture : Mode → Case
no_mixture mode = record { robustness = 1; lines = (begins 0 ∷ images 0 0) ++ images 0 1 ++ begins 1 ∷ says (Lock 1 0 mode) 0 ∷ says (Lock 1 1 mode) 0 ∷ runs 1 2 ∷ [] }

-- job 2 relies on job 1, which relies on job 0; an execution that took nothing of job 0 stays when job 0 commits
abbrev chain_of_three : Case
chain_of_three = record {
  robustness = 1;
  lines = (begins 0 ∷ images 0 1) ++ (begins 1 ∷ reads 1 1 0 ∷ images 1 0) ++ begins 2 ∷ reads 2 0 0 ∷ runs 2 3 ∷ commits 0 0 ∷ runs 2 2 ∷ aborts 1 0 ∷ runs 2 1 ∷ commits 2 0 ∷ [];
}

-- without robustness job 1 takes job 0 to commit alone; job 0 aborts, so job 1 is lost, and what it has imaged can be locked by none
abbrev lost_job : Case
lost_job = record {
  robustness = 0;
  lines = (begins 0 ∷ images 0 0) ++ (begins 1 ∷ reads 1 0 0 ∷ images 1 1) ++ aborts 0 0 ∷ runs 1 0 ∷ commits 1 7 ∷ writes 1 0 7 ∷ begins 2 ∷ reads 2 1 13 ∷ writes 2 1 13 ∷ [];
}

-- job 1 waits for job 0, which may not come to wait for job 1
abbrev ring : Case
ring = record { robustness = 1; lines = (begins 0 ∷ images 0 0) ++ (begins 1 ∷ writes 1 0 0 ∷ images 1 1) ++ reads 0 1 12 ∷ writes 0 1 12 ∷ [] }

-- a writer has one execution beside a reader, waits for it until it ends, either way, and loses nothing
abbrev reader_first : (ℕ → ℕ → Line) → Case
reader_first ends = record { robustness = 1; lines = begins 0 ∷ reads 0 0 0 ∷ begins 1 ∷ writes 1 0 0 ∷ runs 1 1 ∷ says (Image 1 0) 0 ∷ commits 1 18 ∷ ends 0 0 ∷ runs 1 1 ∷ commits 1 0 ∷ [] }

-- the whole table
abbrev pub cases : List Case
cases =
    fourth_has 120 8 ∷ fourth_has 0 1 ∷ fourth_has 1 4 ∷ fourth_has 2 7 ∷ sixth_is_too_much ∷ no_mixture Read ∷ no_mixture Write
    ∷ chain_of_three ∷ lost_job ∷ ring ∷ reader_first commits ∷ reader_first aborts ∷ []

-- the lines are what the rules say, from this book on
unfoldable pub follows : Rule → Model → List Line → Bool
unfolding answer step
follows r m [] = true
follows r m (says c n ∷ ls) = answer_number (answer r m c) == n && follows r (step r m c) ls
follows r m (runs p n ∷ ls) = length (executions_of p m) == n && follows r m ls

-- each case holds, from a new book with limit 16 over these first values
unfoldable pub agree : Rule → List ℕ → List Case → Bool
unfolding follows new
agree r first [] = true
agree r first (c ∷ cs) = follows r (new c.robustness 16 first) c.lines && agree r first cs

-- a job rule that knows every kind
abbrev pub knows_all : (ℕ → ℕ → ℕ) → (ℕ → ℕ → ℕ → ℕ → Mode → ℕ → ℕ) → (ℕ → ℕ → ℕ → ℕ → ℕ → ℕ) → Rule
knows_all start take give = record { knows = λ kind. true; start = start; take = take; give = give }

-- all cases agree, whatever the jobs compute and whatever the two objects hold at first
abbrev pub Agree : Type 0
Agree = (start : ℕ → ℕ → ℕ) (take : ℕ → ℕ → ℕ → ℕ → Mode → ℕ → ℕ) (give : ℕ → ℕ → ℕ → ℕ → ℕ → ℕ) (x y : ℕ) → agree (knows_all start take give) (x ∷ y ∷ []) cases ≡ true
