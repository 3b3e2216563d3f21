use Rattle.std.proofs.Common.{◌≡◌, ℕ, List, ◌+◌, ◌∷◌, ◌++◌, reverse, ap, sym, ◌∙◌, subst, length, append_assoc, arith}
use Rattle.std.proofs.lemmas.Result.{on_ok_weaker}
use Rattle.eq_base.specs.Tree.{head_of, arity_of}
use Rattle.eq_base.specs.View.{tree_at, IsArgument}
use Rattle.written_terms.specs.Printing.{text_in}
use Rattle.symbol_table.specs.Reading.{IsLiveHead}
use Rattle.symbol_table.proofs.LiveTerms.{live-head, live-argument}
use Rattle.standmath.specs.Writing.{text_before, text_end, text_left, AreOpen}
use Rattle.standmath.proofs.Prints.{text_left-end, text_left-argument, both_open, written-left, fewer_left, reverse-two}
use Rattle.standmath.proofs.write.write_next.Goals as goal
use Rattle.standmath.proofs.write.write_next.Given.{Over}

pub returns-then-innermost-arity-clause-text : goal.returns-then-innermost-arity-clause-text
returns-then-innermost-arity-clause-text g c =
    let trees = g.T.TermView.trees c.args.view.now in
    let others = reverse c.args.others.now.items in
    let all = c.if-innermost-arity.true ∙ c.arity-arity.ensures.value in
    let left = text_left-end (text_in c.args.symbols.now) trees c.args.innermost.node c.args.innermost.written others all in
    on_ok_weaker c.write_end.result
    (λ (written : c.write_end.new.into.items ≡ c.args.into.now.items ++ text_end c.arity-arity.result).
    ap (λ x. x ++ text_left (text_in c.args.symbols.now) trees others) (written ∙ ap (λ n. c.args.into.now.items ++ text_end n) (sym c.if-innermost-arity.true))
    ∙ append_assoc c.args.into.now.items (text_end c.args.innermost.written) (text_left (text_in c.args.symbols.now) trees others)
    ∙ ap (λ x. c.args.into.now.items ++ x) (sym left))
    c.write_end.ensures.ok

pub write_head-requires : goal.write_head-requires
write_head-requires g c =
    let trees = g.T.TermView.trees c.args.view.now in
    let argument = subst (λ i. IsArgument trees c.args.innermost.node i c.arg-argument.result) c.from.ensures c.arg-argument.ensures in
    let printable = live-argument c.args.symbols.now (tree_at trees c.args.innermost.node) c.args.innermost.written (tree_at trees c.arg-argument.result) argument.stands c.requires.here.printable in
    subst (IsLiveHead c.args.symbols.now) (sym c.head.ensures) (live-head c.args.symbols.now (tree_at trees c.arg-argument.result) printable)

module _ (g : Over) (c : goal.In_ok-push-2 g) where
  argument : IsArgument (g.T.TermView.trees c.args.view.now) c.args.innermost.node c.args.innermost.written c.arg-argument.result
  argument = let trees = g.T.TermView.trees c.args.view.now in subst (λ i. IsArgument trees c.args.innermost.node i c.arg-argument.result) c.from.ensures c.arg-argument.ensures

  -- the applications that are open now
  now_open : reverse c.push-2.new.self.items ≡ record { node = c.arg-argument.result; written = 0 } ∷ record { node = c.args.innermost.node; written = c.args.innermost.written + 1 } ∷ reverse c.args.others.now.items
  now_open = reverse-two c.args.others.now.items c.push.new.self.items c.push-2.new.self.items _ _ c.in_ok-push.ensures.items c.in_ok-push-2.ensures.items

  -- what was left to write, and what is left now
  parts : text_left (text_in c.args.symbols.now) (g.T.TermView.trees c.args.view.now) (c.args.innermost ∷ reverse c.args.others.now.items)
      ≡ text_before c.args.innermost.written ++ text_in c.args.symbols.now (head_of (tree_at (g.T.TermView.trees c.args.view.now) c.arg-argument.result)) ++ text_left (text_in c.args.symbols.now) (g.T.TermView.trees c.args.view.now) (reverse c.push-2.new.self.items)
  parts =
      let trees = g.T.TermView.trees c.args.view.now in
      let head = text_in c.args.symbols.now (head_of (tree_at trees c.arg-argument.result)) in
      text_left-argument (text_in c.args.symbols.now) trees c.args.innermost.node c.args.innermost.written c.arg-argument.result (reverse c.args.others.now.items) argument.stands
      ∙ ap (λ opens. text_before c.args.innermost.written ++ head ++ text_left (text_in c.args.symbols.now) trees opens) (sym now_open)

pub returns-clause-text : goal.returns-clause-text
returns-clause-text g c =
    let trees = g.T.TermView.trees c.args.view.now in
    let head = text_in c.args.symbols.now (head_of (tree_at trees c.arg-argument.result)) in
    let written : c.write_head.new.into.items ≡ c.write_before.new.into.items ++ head = ◌∙◌ {A = List ℕ} c.in_ok-write_head.ensures.ok (ap (λ h. c.write_before.new.into.items ++ text_in c.args.symbols.now h) c.head.ensures) in
    written-left c.args.into.now.items c.write_before.new.into.items c.write_head.new.into.items (text_before c.args.innermost.written) head _ _ c.in_ok-write_before.ensures.ok written (parts g c)

pub returns-clause-opens : goal.returns-clause-opens
returns-clause-opens g c =
    let trees = g.T.TermView.trees c.args.view.now in
    let more = λ (all : c.args.innermost.written ≡ arity_of (tree_at trees c.args.innermost.node)). c.if-innermost-arity.false (all ∙ sym c.arity-arity.ensures.value) in
    subst (AreOpen c.args.symbols.now trees) (sym (now_open g c))
    (both_open c.args.symbols.now trees c.args.innermost.node c.args.innermost.written c.arg-argument.result (reverse c.args.others.now.items) c.requires.here more (argument g c) c.requires.others)

pub returns-clause-shorter : goal.returns-clause-shorter
returns-clause-shorter g c =
    let trees = g.T.TermView.trees c.args.view.now in
    let head = text_in c.args.symbols.now (head_of (tree_at trees c.arg-argument.result)) in
    let rest = text_left (text_in c.args.symbols.now) trees (reverse c.push-2.new.self.items) in
    let fewer = fewer_left c.args.innermost.written (length (reverse c.args.others.now.items)) head _ rest (parts g c) in
    omega (arith, fewer, ap length (now_open g c))
