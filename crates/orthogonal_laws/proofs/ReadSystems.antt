-- Equations as they are read by a table: their system is orthogonal, and next redexes are those by number.
use Rattle.std.proofs.Common.{◌≡◌, ◌↔◌, ℕ, suc, List, [], ◌∷◌, map, refl, sym, ap, subst, arith}
use Rattle.std.specs.Prelude.{Some, None, IsSome, option_map}
use Rattle.std.specs.declared.option.Option.{Option}
use Rattle.eq_base.specs.Tree.{Tree, map_heads}
use Rattle.eq_base.specs.Rewriting.{System, IsRedexBy, IsNormal}
use Rattle.eq_base.specs.RuleList.{RuleList}
use Rattle.eq_base.specs.Rules.{rule_of, system_of}
use Rattle.eq_base.specs.Mapping.{map_rule}
use Rattle.eq_base.specs.ReadHead.{ReadHead}
use Rattle.eq_base.specs.Operations.{value_of}
use Rattle.eq_base.specs.declared.head.Head.{Head}
use Rattle.eq_base.specs.declared.rules.Op.{Op}
use Rattle.eq_base.specs.declared.rules.Equation.{Equation}
use Rattle.eq_base.proofs.Mapped.{map-back}
use Rattle.symbol_table.specs.Table.{Table, HasOneNumberEach}
use Rattle.symbol_table.specs.Reading.{read, read_rule, read_system, IsLiveEquation, AreLiveEquations, AreLive, IsLiveTerm}
use Rattle.symbol_table.proofs.Numberings.{read_all, head_for, read-head_for, class-head_for, class-read_all, live-rule, live-rule_for, live-term, live-term_for}
use Rattle.sequentiality.specs.Regular.{AreRegular}
use Rattle.orthogonal_laws.specs.Orthogonal.{IsWellFormedSystem, IsOrthogonal, IsLawful}
use Rattle.orthogonal_laws.specs.Readings.{AreRegularIn}
use Rattle.orthogonal_laws.specs.Results.{AreValuesBy}
use Rattle.orthogonal_laws.specs.Next.{IsNextRedex}
use Rattle.orthogonal_laws.specs.Demanded.{IsNextBy}
use Rattle.orthogonal_laws.specs.declared.next.Next.{Next}
use Rattle.orthogonal_laws.specs.declared.next.Next.TheVariants.{Redex, Normal}
use Rattle.orthogonal_laws.proofs.FirstDemands.{next_is_one, next_from_one}
use Rattle.orthogonal_laws.proofs.RegularLists.{regular_orthogonal, regular_well_formed}
use Rattle.orthogonal_laws.proofs.Images.{IsImage, orthogonal-back, well_formed-back, redex_by-image}
use Rattle.orthogonal_laws.proofs.Retracts.{redex_by-back, next_redex-back, next_redex-image, normal-back, normal-image}

-- ---- the system of the equations by number, whose values are those that are read

-- what a value that is read is by number
abbrev pub number_values : Table → Op → Tree Head → Option (Tree Head)
number_values table op t = option_map (map_heads (head_for table)) (value_of op (map_heads (read_all table) t))

abbrev pub number_system : Table → RuleList → System Head
number_system table rules = system_of (number_values table) rules

values_back : (table : Table) (o : Option (Tree ReadHead)) → o ≡ option_map (map_heads (read_all table)) (option_map (map_heads (head_for table)) o)
values_back table None = refl
values_back table (Some t) = ap Some (sym (map-back (head_for table) (read_all table) (read-head_for table) t))

is_some-map : {A B : Type 0} (f : A → B) (o : Option A) → IsSome (option_map f o) ↔ IsSome o
is_some-map f None = (λ is. is, λ is. is)
is_some-map f (Some x) = (λ is. refl, λ is. refl)

-- an application has a value by number exactly where the one that is read has one
pub number_values_by : (table : Table) → HasOneNumberEach table → AreValuesBy table (number_values table)
number_values_by table one op t live =
    subst (λ s. IsSome (option_map (map_heads (head_for table)) (value_of op s)) ↔ IsSome (value_of op (read table t))) (sym (live-term table one t live)) (is_some-map (map_heads (head_for table)) (value_of op (read table t)))

module _ (table : Table) (one : HasOneNumberEach table) where
  first_live : (e : Equation) (es : List Equation) → AreLiveEquations table (e ∷ es) → IsLiveEquation table e
  first_live e es live = live 0 e (omega arith)

  later_live : (e : Equation) (es : List Equation) → AreLiveEquations table (e ∷ es) → AreLiveEquations table es
  later_live e es live = λ k d lt. live (suc k) d (omega arith)

  rules_for : (es : List Equation) → AreLiveEquations table es → map rule_of es ≡ map (map_rule (head_for table)) (map (read_rule table) es)
  rules_for [] live = refl
  rules_for (e ∷ es) live = rw (live-rule_for table one e (first_live e es live), sym (rules_for es (later_live e es live))) refl

  rules_read : (es : List Equation) → AreLiveEquations table es → map (read_rule table) es ≡ map (map_rule (read_all table)) (map rule_of es)
  rules_read [] live = refl
  rules_read (e ∷ es) live = rw (live-rule table one e (first_live e es live), sym (rules_read es (later_live e es live))) refl

  module _ (rules : RuleList) (live : AreLive table rules) where
    -- the equations by number are those that are read, with a number for each head
    pub for_read : IsImage (head_for table) (read_system table rules) (number_system table rules)
    for_read = record {
      rules = rules_for rules.equations live.equations;
      classes = class-head_for table one rules.classes live.classes;
      values = λ op t. ap (λ t. option_map (map_heads (head_for table)) (value_of op t)) (map-back (head_for table) (read_all table) (read-head_for table) t);
    }

    -- and these are read from them
    pub from_numbers : IsImage (read_all table) (number_system table rules) (read_system table rules)
    from_numbers = record {
      rules = rules_read rules.equations live.equations;
      classes = class-read_all table one rules.classes live.classes;
      values = λ op t. values_back table (value_of op (map_heads (read_all table) t));
    }

    module _ (regular : AreRegular rules) where
      pub number_well_formed : IsWellFormedSystem (number_system table rules)
      number_well_formed = regular_well_formed (number_values table) rules regular

      pub number_orthogonal : IsOrthogonal (number_system table rules)
      number_orthogonal = regular_orthogonal (number_values table) rules regular

      -- regular equations, as they are read, are well formed and orthogonal
      pub read_well_formed : IsWellFormedSystem (read_system table rules)
      read_well_formed = well_formed-back (head_for table) (read_all table) (read-head_for table) (read_system table rules) (number_system table rules) for_read from_numbers number_well_formed

      pub read_orthogonal : IsOrthogonal (read_system table rules)
      read_orthogonal = orthogonal-back (head_for table) (read_all table) (read-head_for table) (read_system table rules) (number_system table rules) for_read from_numbers number_orthogonal

      module _ (t : Tree Head) (live_term : IsLiveTerm table t) where
        -- the next redex of a live term is that of the term that is read
        pub next_redex_read : (at n : ℕ) → IsNextRedex (number_system table rules) t at n ↔ IsNextRedex (read_system table rules) (read table t) at n
        next_redex_read at n = (
          λ next.
              next_redex-back (head_for table) (read_all table) (read-head_for table) (read_system table rules) (number_system table rules) for_read from_numbers number_well_formed number_orthogonal (read table t) at n
              (subst (λ t. IsNextRedex (number_system table rules) t at n) (sym (live-term_for table one t live_term)) next),
          λ next.
              subst (λ t. IsNextRedex (number_system table rules) t at n) (live-term_for table one t live_term)
              (next_redex-image (head_for table) (read_all table) (read-head_for table) (read_system table rules) (number_system table rules) for_read from_numbers number_well_formed number_orthogonal (read table t) at n next),
        )

        -- and it is normal exactly where the term that is read is
        pub normal_read : IsNormal (number_system table rules) t ↔ IsNormal (read_system table rules) (read table t)
        normal_read = (
          λ normal.
              normal-back (head_for table) (read_all table) (read-head_for table) (read_system table rules) (number_system table rules) for_read from_numbers number_well_formed number_orthogonal (read table t)
              (subst (λ t. IsNormal (number_system table rules) t) (sym (live-term_for table one t live_term)) normal),
          λ normal.
              subst (λ t. IsNormal (number_system table rules) t) (live-term_for table one t live_term)
              (normal-image (head_for table) (read_all table) (read-head_for table) (read_system table rules) (number_system table rules) for_read from_numbers number_well_formed number_orthogonal (read table t) normal),
        )

        -- what is answered by number is exactly the next redex of the term that is read
        pub exactly_redex : (answer : Next) → IsNextBy (number_system table rules) t answer → (at n : ℕ) → (answer ≡ Redex at n) ↔ IsNextRedex (read_system table rules) (read table t) at n
        exactly_redex (Redex a e) is at n = (
          λ same. (let x : a ≡ at = cc in let y : e ≡ n = cc in subst (λ z. IsNextRedex (read_system table rules) (read table t) at z) y (subst (λ z. IsNextRedex (read_system table rules) (read table t) z e) x ((next_redex_read a e).0 is))),
          λ next. (let same = next_is_one (read_system table rules) read_well_formed read_orthogonal (read table t) a at e n ((next_redex_read a e).0 is) next in let x = same.0 in let y = same.1 in cc),
        )
        exactly_redex Normal is at n = (λ same. absurd (cc), λ next. absurd (next_from_one (read_system table rules) read_well_formed read_orthogonal (read table t) at n next (normal_read.0 is)))

        pub exactly_normal : (answer : Next) → IsNextBy (number_system table rules) t answer → (answer ≡ Normal) ↔ IsNormal (read_system table rules) (read table t)
        exactly_normal (Redex a e) is = (λ same. absurd (cc), λ normal. absurd (next_from_one (read_system table rules) read_well_formed read_orthogonal (read table t) a e ((next_redex_read a e).0 is) normal))
        exactly_normal Normal is = (λ same. normal_read.0 is, λ normal. refl)

      -- an equation fits a live term exactly where it fits the term that is read
      pub redex_read : (t : Tree Head) → IsLiveTerm table t → (n : ℕ) → IsRedexBy (number_system table rules) n t ↔ IsRedexBy (read_system table rules) n (read table t)
      redex_read t live_term n = (
        λ r.
            redex_by-back (head_for table) (read_all table) (read-head_for table) (read_system table rules) (number_system table rules) for_read from_numbers n (read table t)
            (subst (λ t. IsRedexBy (number_system table rules) n t) (sym (live-term_for table one t live_term)) r),
        λ r.
            subst (λ t. IsRedexBy (number_system table rules) n t) (live-term_for table one t live_term)
            (redex_by-image (head_for table) (read_system table rules) (number_system table rules) for_read n (read table t) r),
      )

-- so all laws hold of it
pub read_lawful : (table : Table) (rules : RuleList) → AreRegularIn table rules → IsLawful (read_system table rules)
read_lawful table rules r = record { well_formed = read_well_formed table r.distinct rules r.live r.regular; orthogonal = read_orthogonal table r.distinct rules r.live r.regular }
