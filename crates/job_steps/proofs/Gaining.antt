-- What a sink gained of a text whose first part it has.
use Rattle.std.proofs.Common.{◌≡◌, ◌+◌, ◌≤◌, ℕ, List, [], ◌∷◌, ◌++◌, length, refl, sym, ap, ◌∙◌, arith, subst, append_assoc, length-append}
use Rattle.std.proofs.lemmas.List.{append-nil}
use Rattle.std.specs.declared.option.Option.{Option}
use Rattle.std.specs.declared.option.Option.TheVariants.{None, Some}
use Rattle.std.specs.Io.KnownBytes.{Appends}
use Rattle.std.proofs.KnownBytes.{Appends-nil, Appends-trans}
use Rattle.bg_io.specs.Ends.{HasRoom, IsCutShort, RoomFalls, Rose}
use Rattle.bg_io.proofs.Transfers.{RoomFalls-more}
use Rattle.job_steps.specs.declared.print.PrintFault.{PrintFault}
use Rattle.job_steps.specs.declared.print.PrintFault.TheVariants.{Limit, WriteFault, NoMemory}
use Rattle.job_steps.specs.Gains.{GainsAll, GainsPart, GainsSome, IsUnwritten}
use Rattle.job_steps.specs.Progress.{IsBeginning}
use Rattle.job_steps.specs.States.{SinkState}

-- a text begins with itself
pub beginning_self : (x : List ℕ) → IsBeginning x x
beginning_self x = record { rest = []; joined = sym (append-nil x) }

-- a beginning of a beginning is one of the whole
pub beginning_trans : (x y z : List ℕ) → IsBeginning x y → IsBeginning y z → IsBeginning x z
beginning_trans x y z a b = record { rest = a.rest ++ b.rest; joined = b.joined ∙ ap (λ (l : List ℕ). l ++ b.rest) a.joined ∙ append_assoc x a.rest b.rest }

-- the same behind a first part
pub beginning_behind : (x y z : List ℕ) → IsBeginning y z → IsBeginning (x ++ y) (x ++ z)
beginning_behind x y z a = record { rest = a.rest; joined = ap (λ (l : List ℕ). x ++ l) a.joined ∙ sym (append_assoc x y a.rest) }

-- the first of two parts
pub beginning_front : (x y : List ℕ) → IsBeginning x (x ++ y)
beginning_front x y = record { rest = y; joined = refl }

front_nil : (xs ys : List ℕ) → xs ++ ys ≡ [] → xs ≡ []
front_nil [] ys e = refl
front_nil (x ∷ xs) ys e = cc e

-- what is cut short of a beginning is cut short of the whole
pub cut_of_beginning : (g x y : List ℕ) → IsCutShort g x → IsBeginning x y → IsCutShort g y
cut_of_beginning g x y cut a = record {
  rest = cut.rest ++ a.rest;
  more = λ e. cut.more (front_nil cut.rest a.rest e);
  joined = a.joined ∙ ap (λ (l : List ℕ). l ++ a.rest) cut.joined ∙ append_assoc g cut.rest a.rest;
}

-- a text that is cut short is so behind a first part too
pub cut_behind : (x g y : List ℕ) → IsCutShort g y → IsCutShort (x ++ g) (x ++ y)
cut_behind x g y cut = record { rest = cut.rest; more = cut.more; joined = ap (λ (l : List ℕ). x ++ l) cut.joined ∙ sym (append_assoc x g cut.rest) }

room_within : (r : Option ℕ) (m n : ℕ) → m ≤ n → HasRoom r n → HasRoom r m
room_within None m n le room = absurd room
room_within (Some k) m n le room = omega (arith, le, room)

room_left : (r s : Option ℕ) (m n : ℕ) → RoomFalls r s m → HasRoom r (m + n) → HasRoom s n
room_left None s m n falls room = absurd room
room_left (Some k) None m n falls room = absurd falls
room_left (Some k) (Some l) m n falls room = omega (arith, falls, room)

-- no room for a beginning is none for the whole
pub no_room_for : (r : Option ℕ) (x y : List ℕ) → IsBeginning x y → (HasRoom r (length x) → ⊥) → HasRoom r (length y) → ⊥
no_room_for r x y a none room = none (room_within r (length x) (length y) (omega (arith, ap length a.joined, length-append x a.rest)) room)

-- a count that rose from a later value rose from an earlier one
pub rose_behind : (f g h : ℕ) → f ≤ g → Rose g h → Rose f h
rose_behind f g h later rose = omega (arith, later, rose)

-- the count stood before it rose
pub rose_from : (f g h : ℕ) → g ≡ f → Rose g h → Rose f h
rose_from f g h kept rose = omega (arith, kept, rose)

room_kept : (r : Option ℕ) → RoomFalls r r 0
room_kept None = tt
room_kept (Some k) = omega arith

-- an empty text is gained whole with no write
pub all_none : (a : SinkState) → GainsAll a a []
all_none a = record { appended = Appends-nil a.held; falls = room_kept a.room; kept = refl }

-- two texts that are gained whole one after the other are gained as one
pub all_behind : (a b c : SinkState) (x y : List ℕ) → GainsAll a b x → GainsAll b c y → GainsAll a c (x ++ y)
all_behind a b c x y w v = record {
  appended = Appends-trans a.held b.held c.held x y w.appended v.appended;
  falls = subst (RoomFalls a.room c.room) (sym (length-append x y)) (RoomFalls-more a.room b.room c.room (length x) (length y) w.falls v.falls);
  kept = v.kept ∙ w.kept;
}

-- the same where the second was cut short
pub part_behind : (a b c : SinkState) (x y : List ℕ) → GainsAll a b x → GainsPart b c y → GainsPart a c (x ++ y)
part_behind a b c x y w part = record {
  gained = x ++ part.gained;
  appended = Appends-trans a.held b.held c.held x part.gained w.appended part.appended;
  cut_short = cut_behind x part.gained y part.cut_short;
  no_room = λ room. part.no_room (room_left a.room b.room (length x) (length y) w.falls (subst (HasRoom a.room) (length-append x y) room));
}

-- the same where some prefix of the second was gained
pub some_behind : (a b c : SinkState) (x y : List ℕ) → Appends a.held b.held x → GainsSome b c y → GainsSome a c (x ++ y)
some_behind a b c x y appended part = record {
  gained = x ++ part.gained;
  appended = Appends-trans a.held b.held c.held x part.gained appended part.appended;
  beginning = beginning_behind x part.gained y part.beginning;
}

-- what was gained behind a text begins with it
pub part_front : (a b c : SinkState) (x y : List ℕ) (w : GainsAll a b x) (part : GainsPart b c y) →
    IsBeginning x (part_behind a b c x y w part).gained
unfolding part_behind
part_front a b c x y w part = beginning_front x part.gained

-- the same of some prefix
pub some_front : (a b c : SinkState) (x y : List ℕ) (appended : Appends a.held b.held x) (part : GainsSome b c y) →
    IsBeginning x (some_behind a b c x y appended part).gained
unfolding some_behind
some_front a b c x y appended part = beginning_front x part.gained

-- a text was gained whole, and then nothing
pub appended_none : (a b c : Option (List ℕ)) (x : List ℕ) → Appends a b x → Appends b c [] → Appends a c x
appended_none a b c x p q = subst (Appends a c) (append-nil x) (Appends-trans a b c x [] p q)

-- a text that was not written behind one that was leaves both together unwritten
pub unwritten_behind : (a b c : SinkState) (x y : List ℕ) (fault : PrintFault) → GainsAll a b x → IsUnwritten b c y fault → IsUnwritten a c (x ++ y) fault
unwritten_behind a b c x y (Limit kind d value) w u = absurd u
unwritten_behind a b c x y WriteFault w u = (rose_from a.faults b.faults c.faults w.kept u.0, part_behind a b c x y w u.1)
unwritten_behind a b c x y NoMemory w u = some_behind a b c x y w.appended u

-- where a beginning was not written, the whole was not
pub unwritten_before : (a c : SinkState) (x y : List ℕ) (fault : PrintFault) → IsBeginning x y → IsUnwritten a c x fault → IsUnwritten a c y fault
unwritten_before a c x y (Limit kind d value) b u = absurd u
unwritten_before a c x y WriteFault b u = (
  u.0,
  record {
    gained = u.1.gained;
    appended = u.1.appended;
    cut_short = cut_of_beginning u.1.gained x y u.1.cut_short b;
    no_room = no_room_for a.room x y b u.1.no_room;
  },
)
unwritten_before a c x y NoMemory b u = record { gained = u.gained; appended = u.appended; beginning = beginning_trans u.gained x y u.beginning b }
