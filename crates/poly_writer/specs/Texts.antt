-- The printed texts, as functions of plain values.
use Rattle.std.specs.Prelude.{ℕ, ◌+◌, ◌-◌, ◌*◌, ◌==◌, Bool, List, [], ◌∷◌, ◌++◌, if◌then◌else◌, nat_le, length, codes}
use Rattle.std.specs.Prelude.{decimal, slice_index_or}
use Rattle.std.specs.List.{flat_map, join_by}
use Rattle.free_poly.specs.declared.term.Term.{Term}
use Rattle.ideal_laws.specs.declared.account.Account.{Account}
use Rattle.ideal_laws.specs.declared.account.Answer.{Answer}
use Rattle.ideal_laws.specs.declared.account.Answer.TheVariants.{Won, Lost}
use Rattle.ideal_laws.specs.declared.account.Call.{Call}

-- a text with a line feed behind it
abbrev pub line : List ℕ → List ℕ
line text = text ++ codes "\n"

-- a run of equal letters
pub record Run : Type 0 where
  pub letter : ℕ
  pub times : ℕ

-- one more letter before some runs
abbrev pub with_first : ℕ → List Run → List Run
with_first x [] = record { letter = x; times = 1 } ∷ []
with_first x (r ∷ rs) = if x == r.letter then record { letter = x; times = r.times + 1 }
    ∷ rs else record { letter = x; times = 1 } ∷ r ∷ rs

-- the runs of equal letters of a word, each as long as it can be
abbrev pub runs_of : List ℕ → List Run
runs_of [] = []
runs_of (x ∷ w) = with_first x (runs_of w)

-- the name of the letter, and the number of letters where it is not 1
abbrev pub run_text : List (List ℕ) → Run → List ℕ
run_text names r = slice_index_or names r.letter [] ++ (if r.times == 1 then [] else codes "^" ++ decimal r.times)

-- the runs of a word, joined by `*`
abbrev pub word_text : List (List ℕ) → List ℕ → List ℕ
word_text names w = join_by (run_text names) (codes "*") (runs_of w)

-- 2a is at most p, so that the balanced residue is a, and else it is a - p
abbrev pub is_positive : ℕ → ℕ → Bool
is_positive p a = nat_le (2 * a) p

-- the size of the balanced residue
abbrev pub size_of : ℕ → ℕ → ℕ
size_of p a = if is_positive p a then a else p - a

-- the sign of the balanced residue
abbrev pub sign_text : ℕ → ℕ → List ℕ
sign_text p a = if is_positive p a then codes "+" else codes "-"

-- a size before a word: nothing where it is 1
abbrev pub size_text : ℕ → List ℕ
size_text size = if size == 1 then [] else decimal size ++ codes "*"

-- a term after the first
abbrev pub term_text : List (List ℕ) → ℕ → Term → List ℕ
term_text names p t = sign_text p t.coefficient ++ size_text (size_of p t.coefficient) ++ word_text names t.word

-- a monic polynomial, whose first term is its leading word
abbrev pub poly_text : List (List ℕ) → ℕ → List Term → List ℕ
poly_text names p [] = []
poly_text names p (t ∷ ts) = word_text names t.word ++ flat_map (term_text names p) ts

-- the line before the elements of a degree
abbrev pub head_line : ℕ → List ℕ
head_line d = line (codes "% " ++ decimal d)

-- the line of an element
abbrev pub element_line : List (List ℕ) → ℕ → List Term → List ℕ
element_line names p f = line (poly_text names p f)

-- the elements of a degree; a degree without elements prints nothing
abbrev pub degree_text : List (List ℕ) → ℕ → ℕ → List (List Term) → List ℕ
degree_text names p d [] = []
degree_text names p d (f ∷ fs) = head_line d ++ flat_map (element_line names p) (f ∷ fs)

-- the texts of degrees d, d + 1, ..
abbrev pub degree_texts : List (List ℕ) → ℕ → ℕ → List (List (List Term)) → List ℕ
degree_texts names p d [] = []
degree_texts names p d (fs ∷ rest) = degree_text names p d fs ++ degree_texts names p (d + 1) rest

-- the basis text of the lists of degrees 1, 2, ..
abbrev pub basis_text : List (List ℕ) → ℕ → List (List (List Term)) → List ℕ
basis_text names p bases = degree_texts names p 1 bases

-- the lines of degrees d, d + 1, .., each with its number
abbrev pub series_lines : ℕ → List ℕ → List ℕ
series_lines d [] = []
series_lines d (n ∷ ns) = line (decimal d ++ codes " " ++ decimal n) ++ series_lines (d + 1) ns

-- the series text of the numbers of degrees 0, 1, ..
abbrev pub series_text : List ℕ → List ℕ
series_text ns = line (codes "% series") ++ series_lines 0 ns

-- what became of a claim of the column of this word by this row
abbrev pub answer_text : List ℕ → ℕ → Answer → List ℕ
answer_text word row Won = codes " won " ++ word ++ codes " row " ++ decimal row
answer_text word row (Lost holder stamp) =
    codes " lost " ++ word ++ codes " row " ++ decimal row ++ codes " to " ++ decimal holder

-- the line of a call
abbrev pub call_line : List (List ℕ) → List (List ℕ) → Call → List ℕ
call_line names columns c = line (decimal c.stamp ++ codes " " ++ decimal c.seat
    ++ answer_text (word_text names (slice_index_or columns c.column [])) c.row c.answer)

-- the line before the calls of a degree
abbrev pub trace_line : ℕ → ℕ → ℕ → List ℕ
trace_line d rows columns =
    line (codes "# degree " ++ decimal d ++ codes " rows " ++ decimal rows ++ codes " columns " ++ decimal columns)

-- the account of a degree; empty where the degree has no row
abbrev pub trace_text : List (List ℕ) → ℕ → Account → List ℕ
trace_text names d account = if account.rows == 0 then [] else trace_line d account.rows (length account.columns)
    ++ flat_map (call_line names account.columns) account.calls
