use Rattle.std.proofs.Common.{◌++◌, ◌∷◌, List, ℕ, ap, ◌∙◌, subst, codes, inl, rules}
use Rattle.std.specs.Prelude.{map, string_bytes}
use Rattle.command_line.specs.Parts.{BeginWith, Part}
use Rattle.command_line.proofs.OptionNames.{setting_known}
use Rattle.command_line.proofs.Beginning.{split_name, no_split, none_named}
use Rattle.command_line.proofs.part.option_part.Goals as goal

pub bare_option-requires : goal.bare_option-requires
bare_option-requires c = no_split c.args.option.now c.split_once.result c.split_once.ensures.cases c.in_default.is

pub returns-in_err-setting-clause-none : goal.returns-in_err-setting-clause-none
returns-in_err-setting-clause-none c =
    let split = split_name c.args.option.now c.split_once.result c.in-Some.name c.in-Some.value c.split_once.ensures.cases c.in-Some.is in
    let never : (part : Part) (behind : List (List ℕ)) → BeginWith part ((codes "--" ++ c.args.option.now) ∷ map string_bytes c.args.others.now) behind → ⊥ = λ part behind begin.
    none_named c.in-Some.name.now c.in-Some.value.now (map string_bytes c.args.others.now) split.1 c.in_err-setting.ensures.none part behind (subst (λ (text : List ℕ). BeginWith part ((codes "--" ++ text) ∷ map string_bytes c.args.others.now) behind) split.0 begin) in
    search rules

pub returns-clause-part : goal.returns-clause-part
returns-clause-part c =
    let split = split_name c.args.option.now c.split_once.result c.in-Some.name c.in-Some.value c.split_once.ensures.cases c.in-Some.is in
    let named = split.0 ∙ ap (λ (name : List ℕ). name ++ 61 ∷ c.in-Some.value.now) c.in_ok-setting.ensures.named in
    (setting_known c.in_ok-setting.setting, inl (ap (λ (text : List ℕ). (codes "--" ++ text) ∷ map string_bytes c.args.others.now) named))
