-- What the seats of the table hold.
use Rattle.std.specs.Prelude.{ℕ, ◌==◌, cond, List, [], ◌∷◌, ◌++◌, map, slice_index, slice_set}
use Rattle.std.specs.List.{range_with_len, sum_by}
use lib.Dec.{lit<, lit≤}
use mathlib.Core.Path.{refl}
use Rattle.std.proofs.lemmas.List.Elements.{All-nil}
use denote.RawPtr.{null_ptr}
use Rattle.back_reduce.specs.declared.problem.Problem.{Problem}
use Rattle.back_reduce.specs.Rows.{IsRow}
use Rattle.pivot_core.specs.declared.view.Phase.{Phase}
use Rattle.pivot_core.specs.declared.view.Phase.TheVariants as phase
use Rattle.pivot_core.specs.declared.sight.Sight.{Sight}
use Rattle.pivot_core.specs.Views.{fresh, zeros}
use Rattle.pivot_table.specs.declared.share.Setting.{Setting}
use Rattle.pivot_table.specs.declared.share.Hand.{Hand}
use Rattle.pivot_table.specs.declared.share.Share.{Share}

-- a view, and what its row has published
abbrev pub hand : Sight → List ℕ → Hand
hand v published = record { sight = v; published = published }

-- a share of these hands
abbrev pub share : Problem → ℕ → List Hand → Share
share problem crew hands = record { problem = problem; crew = crew; hands = hands }

-- a share of these hands under a setting
abbrev pub share_of : Setting → List Hand → Share
share_of k hands = share k.problem k.crew hands

-- the hand of a seat before its first step
abbrev pub fresh_hand : ℕ → ℕ → Hand
fresh_hand m seat = hand (fresh m seat) (zeros m)

-- all views of the crew, fresh
abbrev pub first_share : Setting → Share
first_share k = share k.problem k.crew (map (fresh_hand k.problem.m) (range_with_len 0 k.crew))

-- the first hand alone
abbrev pub first_hand : List Hand → List Hand
first_hand [] = []
first_hand (x ∷ xs) = x ∷ []

-- all hands but the first
abbrev pub other_hands : List Hand → List Hand
other_hands [] = []
other_hands (x ∷ xs) = xs

-- the share of the first hand
abbrev pub head_share : Share → Share
head_share v = share v.problem v.crew (first_hand v.hands)

-- the share of the other hands
abbrev pub tail_share : Share → Share
tail_share v = share v.problem v.crew (other_hands v.hands)

-- two shares put together
abbrev pub joined : Share → Share → Share
joined v w = share v.problem v.crew (v.hands ++ w.hands)

-- the problem without rows and columns
abbrev pub no_problem : Problem
no_problem = record {
  degree = 0;
  modulus = 0;
  m = 0;
  n = 0;
  rows = record {
    ptr = null_ptr;
    len = 0;
    cap = 0;
    alloc = record { memory = record { seal = tt } };
    items = [];
    ok = (refl, lit≤ tt);
    small = lit< tt;
  };
  count = refl;
  each = All-nil (IsRow 0 0);
  few = lit≤ tt;
}

-- the share of a seat that was taken back has no view
abbrev pub spent : Share
spent = share no_problem 0 []

-- how many of the views of a share have this number
abbrev pub count_of : ℕ → Share → ℕ
count_of i v = sum_by (λ h. cond (h.sight.seat == i) 1 0) v.hands

-- what is published after the next step of a view, by its phase
abbrev pub published_by : ℕ → Sight → List ℕ → Phase → List ℕ
published_by m v published phase.Fresh = zeros m
published_by m v published (phase.Looking row column) = published
published_by m v published (phase.Putting row column at) = slice_set published at (slice_index v.current at)
published_by m v published (phase.Claiming row column) = published
published_by m v published (phase.Reading row column holder at) = published
published_by m v published phase.Ended = published

-- what a hand has published after its next step
abbrev pub published_after : ℕ → Hand → List ℕ
published_after m x = published_by m x.sight x.published x.sight.phase
