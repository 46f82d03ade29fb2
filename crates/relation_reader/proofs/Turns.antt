-- One more relation of a list: its element, or the first fault.
use Rattle.std.proofs.Common.{ℕ, suc, ◌≡◌, ◌≢◌, ◌+◌, ◌<◌, ◌≤◌, List, [], ◌∷◌, ◌++◌, length, get_or, map, take, drop, drop-cons, None, sym, ap, ◌∙◌}
use Rattle.std.proofs.Common.{arith, append-nil, subst, All}
use Rattle.std.proofs.lemmas.List.{get_or-map, length-append, length-map, length-take, take-append-drop, take_more}
use Rattle.std.proofs.lemmas.List.Elements.{All-push}
use Rattle.free_poly.specs.declared.term.Term.{Term}
use Rattle.relation_reader.specs.declared.fault.ReaderFault.{ReaderFault}
use Rattle.relation_reader.specs.declared.fault.ReaderFault.TheVariants as answers
use Rattle.relation_reader.specs.Meaning.{first_of, others_than_zero, relation_faults}
use Rattle.relation_reader.specs.Elements.{AreRefused, AreSound, IsElementOf, IsFirstError, IsRelationError}
use Rattle.relation_reader.proofs.Judging.{AreRefused-from, AreSound-push}

-- what holds of each of some elements and of one more holds of each that is not 0
pub All-others : (P : List Term → Type 0) (found : List (List Term)) (f : List Term) → All P found → (f ≢ [] → P f) → All P (found ++ others_than_zero (f ∷ []))
All-others P found [] h here = subst (All P) (sym (append-nil found)) h
All-others P found (t ∷ f) h here = All-push P found (t ∷ f) h (here (λ e. cc e))

-- with one more element there is at most one more that is not 0
pub length-others : (found : List (List Term)) (f : List Term) → length (found ++ others_than_zero (f ∷ [])) ≤ length found + 1
length-others found [] = omega (arith, ap length (append-nil found))
length-others found (t ∷ f) = omega (arith, length-append found ((t ∷ f) ∷ []))

module _ {X : Type 0} (terms_of : X → List Term) (all : List X) (n : ℕ) (x : X) (within : n < length all) (is : x ≡ get_or all n x) where
  sums : List (List Term)
  sums = map terms_of all

  here : get_or (map terms_of all) n (terms_of x) ≡ terms_of x
  here = get_or-map terms_of all n x (terms_of x) within ∙ ap terms_of (sym is)

  inside : n < length (map terms_of all)
  inside = omega (arith, within, length-map all terms_of)

  so_far : take (n + 1) (map terms_of all) ≡ take n (map terms_of all) ++ terms_of x ∷ []
  so_far = take_more (map terms_of all) n (terms_of x) inside ∙ ap (λ (t : List Term). take n (map terms_of all) ++ t ∷ []) here

  whole : map terms_of all ≡ take n (map terms_of all) ++ terms_of x ∷ drop (suc n) (map terms_of all)
  whole =
      sym (take-append-drop n (map terms_of all))
      ∙ ap (λ (ls : List (List Term)). take n (map terms_of all) ++ ls)
      (drop-cons (map terms_of all) n (terms_of x) inside ∙ ap (λ (t : List Term). t ∷ drop (suc n) (map terms_of all)) here)

  -- the next relation is sound too, where its element has no fault
  pub sound-turn : (p : ℕ) (weights : List ℕ) (found : List (List Term)) (f : List Term) →
      AreSound p weights (take n (map terms_of all)) found → IsElementOf p (terms_of x) f
      → ((k : ℕ) → first_of (relation_faults weights k (f ∷ [])) ≡ None) →
      AreSound p weights (take (n + 1) (map terms_of all)) (found ++ others_than_zero (f ∷ []))
  sound-turn p weights found f h element none =
      subst (λ (ls : List (List Term)). AreSound p weights ls (found ++ others_than_zero (f ∷ []))) (sym so_far)
      (AreSound-push p weights (take n (map terms_of all)) found (terms_of x) f h element none)

  -- where the relations before are sound, an error of the next one is the first of all
  pub error-turn : (p : ℕ) → 0 < p → (weights : List ℕ) (found : List (List Term)) (fault : ReaderFault) →
      AreSound p weights (take n (map terms_of all)) found → IsRelationError p weights (terms_of x) (n + 1) fault
      → IsFirstError p weights (map terms_of all) fault
  error-turn p some weights found answers.NoMemory h error = tt
  error-turn p some weights found (answers.Text fault) h error =
      let count : n + 1 ≡ length (take n (map terms_of all)) + 1 = omega (arith, length-take n (map terms_of all), inside) in
      subst (λ (ls : List (List Term)). AreRefused p weights ls fault) (sym whole)
      (AreRefused-from p some weights (take n (map terms_of all)) found (terms_of x) (drop (suc n) (map terms_of all)) (n + 1) fault h count error)
