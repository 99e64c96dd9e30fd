-- The 245 cells of document 01's "Outcome chart", line by line as it writes them, the lines of a parallel as document 02 (N6) amends them:
-- form number, left code, right code.
-- Codes are 0 to 6, forms 3 to 7; a cell that is not given, and anything outside, is 7: it cannot occur.
use Rattle.std.specs.Prelude.{Bool, false, cond, ◌&&◌, ◌||◌, List, [], ◌∷◌, ℕ, ◌+◌, eqb, leb, ltb}
use Rattle.process.specs.Process.{Form, sequence, parallel, choice, compensation, handler}
use Rattle.process.specs.Forms.{form_of}

-- What a line gives: the left code, the right code, a code, or a code to which 3 is added where either side failed.
pub data Gives : Type 0 where
  the_left the_right : Gives
  the_code : ℕ → Gives
  failed_if_either : ℕ → Gives

-- For any of these left codes with any of these right codes.
pub data Line : Type 0 where
  line : List ℕ → List ℕ → Gives → Line

-- 1 to 6: it ran.
abbrev any_run : List ℕ
any_run = 1 ∷ 2 ∷ 3 ∷ 4 ∷ 5 ∷ 6 ∷ []

-- 2, 3, 5, 6: its undo ran.
abbrev undone : List ℕ
undone = 2 ∷ 3 ∷ 5 ∷ 6 ∷ []

-- 4 to 6: it failed.
abbrev failed : List ℕ
failed = 4 ∷ 5 ∷ 6 ∷ []

-- (0,0) is 0 in every form; then the lines of each form.
unfoldable pub lines : Form → List Line
-- (1,r) gives r for r = 1, 3, 4, 6; (2,2) 2; (2,5) 5; (3,2) 3; (3,5) 6; (4..6,0) the left
lines sequence =
    line (0 ∷ []) (0 ∷ []) (the_code 0)
    ∷ line (1 ∷ []) (1 ∷ 3 ∷ 4 ∷ 6 ∷ []) the_right
    ∷ line (2 ∷ []) (2 ∷ []) (the_code 2)
    ∷ line (2 ∷ []) (5 ∷ []) (the_code 5)
    ∷ line (3 ∷ []) (2 ∷ []) (the_code 3)
    ∷ line (3 ∷ []) (5 ∷ []) (the_code 6)
    ∷ line failed (0 ∷ []) the_left
    ∷ []
-- Both at least 1: failed if either is at least 4; undo not run if both not run, succeeded if both succeeded, failed if both ran and
-- either failed; otherwise 7: "parallel cells with exactly one code 0 become 7, as do those where one undo failed and the other was not
-- run"
lines parallel =
    line (0 ∷ []) (0 ∷ []) (the_code 0)
    ∷ line (1 ∷ 4 ∷ []) (1 ∷ 4 ∷ []) (failed_if_either 1)
    ∷ line (2 ∷ 5 ∷ []) (2 ∷ 5 ∷ []) (failed_if_either 2)
    ∷ line (3 ∷ 6 ∷ []) undone (failed_if_either 3)
    ∷ line undone (3 ∷ 6 ∷ []) (failed_if_either 3)
    ∷ []
-- the one side that is not 0
lines choice = line (0 ∷ []) (0 ∷ []) (the_code 0) ∷ line any_run (0 ∷ []) the_left ∷ line (0 ∷ []) any_run the_right ∷ []
-- (1,0) 1; (1,1) 2; (1,5) 3; (4..6,0) the left
lines compensation =
    line (0 ∷ []) (0 ∷ []) (the_code 0)
    ∷ line (1 ∷ []) (0 ∷ []) (the_code 1)
    ∷ line (1 ∷ []) (1 ∷ []) (the_code 2)
    ∷ line (1 ∷ []) (5 ∷ []) (the_code 3)
    ∷ line failed (0 ∷ []) the_left
    ∷ []
-- (1..3,0) the left; (5,r) and (6,r) give r for r = 1 to 6
lines handler =
    line (0 ∷ []) (0 ∷ []) (the_code 0)
    ∷ line (1 ∷ 2 ∷ 3 ∷ []) (0 ∷ []) the_left
    ∷ line (5 ∷ 6 ∷ []) any_run the_right
    ∷ []

-- Whether the code is one of these.
abbrev pub among : ℕ → List ℕ → Bool
among c [] = false
among c (x ∷ xs) = eqb c x || among c xs

-- What the line gives for the left code l and the right code r.
abbrev pub gives : Gives → ℕ → ℕ → ℕ
gives the_left l r = l
gives the_right l r = r
gives (the_code c) l r = c
gives (failed_if_either c) l r = cond (leb 4 l || leb 4 r) (c + 3) c

-- The first line that fits; 7 where none does.
abbrev pub found : List Line → ℕ → ℕ → ℕ
found [] l r = 7
found (line ls rs g ∷ rest) l r = cond (among l ls && among r rs) (gives g l r) (found rest l r)

-- The cell of a form number, a left code and a right code.
unfoldable pub cell : ℕ → ℕ → ℕ → ℕ
unfolding lines
cell form l r = cond (ltb form 3) 7 (cond (ltb 7 form) 7 (cond (ltb 6 l) 7 (cond (ltb 6 r) 7 (found (lines (form_of form)) l r))))
