-- Words that are added to a table, one after another.
use Rattle.std.proofs.Common.{◌≡◌, ◌⊎◌, ◌+◌, ◌<◌, ℕ, List, [], ◌∷◌, ◌++◌, length, map, take, get_or, sym, ap, ◌∙◌, inl, inr, arith, Some, subst}
use Rattle.std.specs.List.{Contains, slice_get}
use Rattle.std.proofs.lemmas.List.{get_or-map, length-map, map-append, take-map, take_more}
use Rattle.free_poly.specs.declared.term.Term.{Term}
use Rattle.symbolic_prep.specs.declared.packing.PackedWord.{PackedWord}
use Rattle.symbolic_prep.specs.Walk.{HasMore}
use Rattle.symbolic_prep.specs.Numbers.{AreListed, IsGrown}
use Rattle.symbolic_prep.proofs.Numbers.{grown_many, grown_more, listed_among, listed_push}
use Rattle.symbolic_prep.proofs.Sets.{first_of, more_widely}

module _ (old so_far new : List (List ℕ)) (read : PackedWord → List ℕ) (ps : List PackedWord) (i : ℕ) (p : PackedWord) (lt : i < length ps)
    (word : List ℕ) (is : word ≡ read (get_or ps i p)) (h : IsGrown old so_far (map read (take i ps))) (one : IsGrown so_far new (word ∷ [])) where
  -- one more word is added
  pub add_more : IsGrown old new (map read (take (i + 1) ps))
  add_more = grown_more old so_far new (map read (take i ps)) (map read (take (i + 1) ps)) word h one
      (ap (map read) (take_more ps i p lt) ∙ map-append read (take i ps) (get_or ps i p ∷ [])
      ∙ ap (λ (w : List ℕ). map read (take i ps) ++ w ∷ []) (sym is))

  -- where they are too many
  pub add_many : (most : ℕ) → most < length new → HasMore most (λ w. Contains old w ⊎ Contains (map read ps) w)
  add_many most more =
      more_widely most (λ w. Contains old w ⊎ Contains (map read (take (i + 1) ps)) w) (λ w. Contains old w ⊎ Contains (map read ps) w) (λ w m. elim m [
        | inl n ↦ inl n
        | inr n ↦ inr (first_of (map read ps) (i + 1) w (subst (λ (ws : List (List ℕ)). Contains ws w) (sym (take-map read (i + 1) ps)) n))
      ]) (grown_many old new (map read (take (i + 1) ps)) most add_more more)

  -- with their numbers, as those of some terms
  pub add_listed : (f : List Term) → map read ps ≡ map (λ t. t.word) f → (n mid m : List ℕ) (number : ℕ) → AreListed so_far n mid (take i f) →
      slice_get new number ≡ Some word → m ≡ mid ++ number ∷ [] → AreListed new n m (take (i + 1) f)
  add_listed f same n mid m number listed at pushed =
      let none : Term = record { word = []; coefficient = 0 } in
      let t : Term = get_or f i none in
      let inside : i < length f = omega (arith, lt, length-map ps read, ap length same, length-map f (λ (s : Term). s.word)) in
      let here : word ≡ t.word = is ∙ sym (get_or-map read ps i p [] lt) ∙ ap (λ (ws : List (List ℕ)). get_or ws i []) same
      ∙ get_or-map (λ (s : Term). s.word) f i none [] inside in
      listed_push new n mid m (take i f) (take (i + 1) f) number t (listed_among so_far new (word ∷ []) n mid (take i f) listed one)
      (at ∙ ap Some here) pushed (take_more f i none inside)
