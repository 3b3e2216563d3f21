use Rattle.std.proofs.Common.{◌≡◌, ◌+◌, List, [], ◌∷◌, Err, rules, map, length, refl, sym, subst, append-nil}
use Rattle.symbol_table.specs.Table.{names_of}
use Rattle.term_lex.specs.declared.token.Token.{Token}
use Rattle.def_file.specs.Errors.{IfRefused}
use Rattle.def_file.specs.Views.{class_item}
use Rattle.def_file.specs.Names.{NewClass, Member, class_places, TakesAll, RefusesFirst}
use Rattle.def_file.specs.Naming.{no_operations}
use Rattle.def_file.proofs.Namings.{none_taken, more_taken, one_refused, taking_refused}
use Rattle.def_file.specs.Notations.{notation_of}
use Rattle.def_file.proofs.naming.members.take_class_item.Goals as goal

pub returns-in_err-class-clause-taking : goal.returns-in_err-class-clause-taking
returns-in_err-class-clause-taking c = λ syntax.
    let same : c.from_residual.result ≡ Err c.in_err-class.field-0.0 = search rules in
    let known = no_operations c.args.symbols.now c.args.listed.now in
    let places = class_places (4 + length c.args.listed.now.classes) (class_item c.args.item.now) in
    taking_refused (notation_of syntax) c.args.text.now known (no_operations c.args.symbols.now c.take_new_class.new.listed) places c.from_residual.result c.in_err-class.field-0.0 same
    (one_refused (notation_of syntax) c.args.text.now known known places places (NewClass c.args.item.now.name ∷ []) (map (Member (4 + length c.args.listed.now.classes)) c.args.item.now.members.items) refl (none_taken (notation_of syntax) c.args.text.now known places) c.in_err-class.field-0.0 (c.in_err-class.ensures.taking syntax c.args.symbols.now))

pub returns-in_err-take_members-clause-taking : goal.returns-in_err-take_members-clause-taking
returns-in_err-take_members-clause-taking c = λ syntax.
    let same : c.from_residual-in_err-take_members.result ≡ Err c.in_err-take_members.field-0.0 = search rules in
    let known = no_operations c.args.symbols.now c.args.listed.now in
    let mid = no_operations c.args.symbols.now c.take_new_class.new.listed in
    let places = class_places (4 + length c.args.listed.now.classes) (class_item c.args.item.now) in
    let rest = map (Member (4 + length c.args.listed.now.classes)) c.args.item.now.members.items in
    let under = more_taken (notation_of syntax) c.args.text.now known known places places (NewClass c.args.item.now.name ∷ []) rest refl (none_taken (notation_of syntax) c.args.text.now known places) mid (c.in_ok-class.ensures.taking syntax c.args.symbols.now) in
    let refused = subst (λ class. IfRefused (RefusesFirst (notation_of syntax) c.args.text.now mid (map (Member class) c.args.item.now.members.items)) c.in_err-take_members.field-0.0) c.in_ok-class.ensures.class
    (subst (λ (members : List Token). IfRefused (RefusesFirst (notation_of syntax) c.args.text.now mid (map (Member c.in_ok-class.class) members)) c.in_err-take_members.field-0.0) c.deref.ensures.value (c.in_err-take_members.ensures.taking syntax)) in
    taking_refused (notation_of syntax) c.args.text.now known (no_operations c.args.symbols.now c.take_members.new.listed) places c.from_residual-in_err-take_members.result c.in_err-take_members.field-0.0 same
    (one_refused (notation_of syntax) c.args.text.now known mid places rest rest [] (sym (append-nil rest)) under c.in_err-take_members.field-0.0 refused)

pub returns-clause-taking : goal.returns-clause-taking
returns-clause-taking c = λ syntax.
    let known = no_operations c.args.symbols.now c.args.listed.now in
    let mid = no_operations c.args.symbols.now c.take_new_class.new.listed in
    let new = no_operations c.args.symbols.now c.take_members.new.listed in
    let places = class_places (4 + length c.args.listed.now.classes) (class_item c.args.item.now) in
    let rest = map (Member (4 + length c.args.listed.now.classes)) c.args.item.now.members.items in
    let under = more_taken (notation_of syntax) c.args.text.now known known places places (NewClass c.args.item.now.name ∷ []) rest refl (none_taken (notation_of syntax) c.args.text.now known places) mid (c.in_ok-class.ensures.taking syntax c.args.symbols.now) in
    under.takes new
    (subst (λ class. TakesAll (notation_of syntax) c.args.text.now mid (map (Member class) c.args.item.now.members.items) new) c.in_ok-class.ensures.class
    (subst (λ (members : List Token). TakesAll (notation_of syntax) c.args.text.now mid (map (Member c.in_ok-class.class) members) new) c.deref.ensures.value (c.in_ok-take_members.ensures.taking syntax)))

pub returns-clause-live : goal.returns-clause-live
returns-clause-live c = λ live. c.in_ok-take_members.ensures.live (c.in_ok-class.ensures.live (names_of c.args.symbols.now) live)
