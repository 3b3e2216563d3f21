-- What holds of each part of an equation that written sides mean.
use Rattle.std.proofs.Common.{ℕ, List, [], ◌∷◌, sym, subst}
use Rattle.std.specs.List.{AllByRecursion, flat_map}
use Rattle.eq_base.specs.Tree.{Tree}
use Rattle.eq_base.specs.Pattern.{PatternCell}
use Rattle.eq_base.specs.ReadHead.{ReadHead}
use Rattle.eq_base.proofs.Lists.{all_both}
use Rattle.written_terms.specs.Notation.{Notation}
use Rattle.def_file.specs.AsRead.{ReadQualifier, ReadEquation}
use Rattle.def_file.specs.Trees.{Restriction, InClass, OneOf, Condition, Sides}
use Rattle.def_file.specs.Pairs.{AreRelated}
use Rattle.def_file.specs.Names.{Known}
use Rattle.def_file.specs.Definitions.{MeansSide, MeanChoices, MeansQualifier, MeansEquation}
use Rattle.qualifiers.specs.Instances.{parts_of}

module _ (notation : Notation) (text : List ℕ) (known : Known) where
  module _ (classes : List (ℕ × ℕ)) (P : Tree (PatternCell ReadHead) → Type 0) (each : (byte : ℕ) (p : Tree (PatternCell ReadHead)) → MeansSide notation text known classes byte p → P p) where
    terms_have : (terms : List ℕ) (ps : List (Tree (PatternCell ReadHead))) → AreRelated (MeansSide notation text known classes) terms ps → AllByRecursion P ps
    terms_have [] [] h = tt
    terms_have [] (p ∷ ps) h = absurd h
    terms_have (t ∷ ts) [] h = absurd h
    terms_have (t ∷ ts) (p ∷ ps) (m, h) = (each t p m, terms_have ts ps h)

    choices_have : (r : Restriction) (ps : List (Tree (PatternCell ReadHead))) → MeanChoices notation text known classes r ps → AllByRecursion P ps
    choices_have (InClass name) ps e = subst (AllByRecursion P) (sym e) tt
    choices_have (OneOf terms) ps h = terms_have terms ps h

    alternatives_have : (cs : List Condition) (qs : List ReadQualifier) → AreRelated (MeansQualifier notation text known classes) cs qs → AllByRecursion P (flat_map (λ (q : ReadQualifier). q.choices) qs)
    alternatives_have [] [] h = tt
    alternatives_have [] (q ∷ qs) h = absurd h
    alternatives_have (c ∷ cs) [] h = absurd h
    alternatives_have (c ∷ cs) (q ∷ qs) (m, h) =
        all_both P q.choices (flat_map (λ (r : ReadQualifier). r.choices) qs) (choices_have c.restriction q.choices m.choices) (alternatives_have cs qs h)

  -- what each side has that is meant
  pub parts_have : (sides : Sides) (w : ReadEquation) (m : MeansEquation notation text known sides w) (P : Tree (PatternCell ReadHead) → Type 0) → ((byte : ℕ) (p : Tree (PatternCell ReadHead)) → MeansSide notation text known m.classes byte p → P p) → AllByRecursion P (parts_of w)
  parts_have sides w m P each =
      (each sides.left w.left m.left, (each sides.right w.right m.right, alternatives_have m.classes P each sides.conditions w.qualifiers m.qualifiers))
