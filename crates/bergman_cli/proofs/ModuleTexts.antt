-- The texts of a right module, from what is told of it.
use Rattle.std.proofs.Common.{◌≡◌, ◌+◌, ◌<◌, ◌≤◌, ℕ, List, [], ◌++◌, All, drop, get_or, length, map, refl, sym, ap, ◌∙◌, arith, subst}
use Rattle.std.proofs.lemmas.List.{append-nil, drop_all, get_or-map, length-map}
use Rattle.words.proofs.Members.{All-from_members}
use Rattle.free_poly.specs.declared.term.Term.{Term}
use Rattle.free_poly.specs.Poly.{IsMonic}
use Rattle.ideal_laws.specs.declared.presentation.Presentation.{Presentation}
use Rattle.ideal_laws.specs.Ideal.{IsElement, ideal_of}
use Rattle.poly_writer.specs.Texts.{basis_text, degree_texts}
use Rattle.right_modules.specs.declared.module.ModuleDegree.{ModuleDegree}
use Rattle.right_modules.specs.Answered.{AreModuleDegrees, AreModuleNumbers, IsModuleBasisOf, free_letters}
use Rattle.command_words.specs.declared.job.Job.{Job}
use Rattle.command_words.specs.declared.job.Show.{Show}
use Rattle.command_words.specs.declared.job.Show.TheVariants as shows
use Rattle.job_steps.specs.Progress.{IsPart}
use Rattle.bergman_cli.specs.Gb.{shows_basis, shows_series}
use Rattle.bergman_cli.specs.Module.{IsModuleBasisText, IsModuleSeriesText, IsModuleText, module_series_text}

-- the lists of elements, degree by degree
abbrev pub lists_of : List ModuleDegree → List (List (List Term))
lists_of degrees = map (λ m. m.elements) degrees

module _ (names : List (List ℕ)) (p : ℕ) (degrees : List ModuleDegree) (whole : List ℕ) where
  -- what is still to be printed behind the text before degree k + 1
  abbrev pub IsTextBefore : ℕ → List ℕ → Type 0
  IsTextBefore k so_far = so_far ++ degree_texts names p (k + 1) (lists_of (drop k degrees)) ≡ whole

  -- behind the last degree nothing is left
  pub text_end : (text : List ℕ) (k : ℕ) → length degrees ≤ k → IsTextBefore k text → text ≡ whole
  text_end text k end h = sym (append-nil text) ∙ ap (λ (ds : List ModuleDegree). text ++ degree_texts names p (k + 1) (lists_of ds))
      (sym (drop_all k degrees end)) ∙ h

module _ (p : ℕ) (given : Presentation) (gens bound : ℕ) (degrees : List ModuleDegree) (are : AreModuleDegrees p given gens bound degrees) where
  -- what is printed is an element, and monic
  pub printed_elements : (k : ℕ) (m : ModuleDegree) → k < bound →
      All (λ f. IsElement p given.alphabet.weights (k + 1) f × IsMonic f) (get_or degrees k m).elements
  printed_elements k m within = All-from_members (λ f. IsElement p given.alphabet.weights (k + 1) f × IsMonic f) (get_or degrees k m).elements
      (λ f c. let r = ((are.each k m within).exactly f).0 c in (r.inside.element, r.monic))

  -- the printed lists are the reduced bases
  pub basis_printed : (text : List ℕ) → text ≡ basis_text given.alphabet.names p (lists_of degrees) →
      IsModuleBasisText p given.alphabet (free_letters given gens) given.relations bound text
  basis_printed text is = record {
    bases = lists_of degrees;
    count = length-map degrees (λ m. m.elements) ∙ are.size;
    each = λ k within.
        let m : ModuleDegree = record { degree = 0; elements = [] } in
        subst (IsModuleBasisOf p given gens (k + 1)) (sym (get_or-map (λ (n : ModuleDegree). n.elements) degrees k m []
        (omega (arith, within, are.size)))) (are.each k m within);
    printed = is;
  }

module _ (job : Job) (given : Presentation) (p : ℕ) (field : p ≡ job.modulus) where
  abbrev free : ℕ
  free = free_letters given job.gens

  abbrev BasisText : ℕ → List ℕ → Type 0
  BasisText q = IsModuleBasisText q given.alphabet free given.relations job.bound

  abbrev SeriesText : List ℕ → Type 0
  SeriesText = IsModuleSeriesText (ideal_of job.modulus given) free job.bound

  own_basis : (text : List ℕ) → BasisText p text → BasisText job.modulus text
  own_basis text h = subst (λ (q : ℕ). BasisText q text) field h

  own_series : (numbers : List ℕ) → AreModuleNumbers p given job.gens job.bound numbers → SeriesText (module_series_text numbers)
  own_series numbers h =
      let own = subst (λ (q : ℕ). AreModuleNumbers q given job.gens job.bound numbers) field h in
      record { numbers = numbers; count = own.size; each = λ k within. own.each k (omega (arith, within)); printed = refl }

  shown : (show : Show) → job.show ≡ show → (basis series text : List ℕ) → IsPart (shows_basis show) (BasisText job.modulus) basis →
      IsPart (shows_series show) SeriesText series → text ≡ basis ++ series
      → IsModuleText job given.alphabet given.relations text
  shown show is basis series text a b joined = record {
    basis = basis;
    series = series;
    is_basis = subst (λ (s : Show). IsPart (shows_basis s) (BasisText job.modulus) basis) (sym is) a;
    is_series = subst (λ (s : Show). IsPart (shows_series s) SeriesText series) (sym is) b;
    joined = joined;
  }

  -- the series alone
  pub series_shown : job.show ≡ shows.Series → (numbers text : List ℕ) → AreModuleNumbers p given job.gens job.bound numbers →
      text ≡ module_series_text numbers → IsModuleText job given.alphabet given.relations text
  series_shown is numbers text h same = shown shows.Series is [] (module_series_text numbers) text refl (own_series numbers h) same

  -- the basis and behind it the series
  pub both_shown : job.show ≡ shows.Both → (numbers basis text : List ℕ) → BasisText p basis →
      AreModuleNumbers p given job.gens job.bound numbers → text ≡ basis ++ module_series_text numbers
      → IsModuleText job given.alphabet given.relations text
  both_shown is numbers basis text h n same = shown shows.Both is basis (module_series_text numbers) text (own_basis basis h) (own_series numbers n) same
