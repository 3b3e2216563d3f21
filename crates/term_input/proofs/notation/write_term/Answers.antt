use Rattle.std.proofs.Common.{◌≡◌, ℕ, ◌<◌, List, ◌++◌, sym, ◌∙◌, ap, subst, arith, Result}
use Rattle.std.specs.Prelude.{OnOk, length}
use Rattle.std.proofs.lemmas.List.{get_or_default}
use Rattle.eq_base.specs.Tree.{Tree, node as tree_node, empty, size, subtrees, nth_subtree}
use Rattle.eq_base.specs.View.{tree_at}
use Rattle.eq_base.specs.declared.head.Head.{Head}
use Rattle.eq_base.specs.declared.head.Head.TheVariants.{Symbol}
use Rattle.eq_base.proofs.Heads.{subtree-heads}
use Rattle.eq_base.proofs.Positions.{subtree_at-nth_position}
use Rattle.eq_base.proofs.Trees.{length-subtrees, nth_subtree-map_heads}
use Rattle.term_lex.specs.declared.syntax.Syntax.{Syntax}
use Rattle.term_lex.specs.declared.syntax.Syntax.TheVariants.{Standmath, LispM}
use Rattle.symbol_table.specs.Table.{Table, names_of}
use Rattle.symbol_table.specs.Reading.{read, read_head, IsLiveHead, IsLiveTerm}
use Rattle.term_input.specs.Printing.{print}
use Rattle.term_input.proofs.notation.write_term.Goals as goal

-- the node is one of the term
there : (t : Tree Head) (node : ℕ) → node < size t → node < length (subtrees t)
there t node lt = omega (arith, length-subtrees t, lt)

-- the tree of a node is the term's part there
tree_at-subtrees : (t : Tree Head) (node : ℕ) → node < length (subtrees t) → tree_at (subtrees t) node ≡ nth_subtree t node
tree_at-subtrees t node lt = get_or_default (subtrees t) node (tree_node (Symbol 0) empty) t lt

-- each number in a part of a term is live
live_at : (table : Table) (t : Tree Head) (node : ℕ) → node < size t → IsLiveTerm table t → IsLiveTerm table (nth_subtree t node)
live_at table t node lt live = subtree-heads (IsLiveHead table) t _ (nth_subtree t node) (subtree_at-nth_position t node lt) live

printable : (table : Table) (t : Tree Head) (node : ℕ) → node < size t → IsLiveTerm table t → IsLiveTerm table (tree_at (subtrees t) node)
printable table t node lt live = subst (IsLiveTerm table) (sym (tree_at-subtrees t node (there t node lt))) (live_at table t node lt live)

-- the print of a node is that of the term's part there, in the notation that is chosen
written : {T E : Type 0} (table : Table) (t : Tree Head) (node : ℕ) → node < size t → (syntax chosen : Syntax) → syntax ≡ chosen → (old new : List ℕ) (r : Result T E)
    → OnOk r (new ≡ old ++ print chosen (names_of table) (read table (tree_at (subtrees t) node))) → OnOk r (new ≡ old ++ print syntax (names_of table) (nth_subtree (read table t) node))
written table t node lt syntax chosen is old new r ok =
    let part = ap (read table) (tree_at-subtrees t node (there t node lt)) ∙ sym (nth_subtree-map_heads (read_head table) t node lt) in
    subst (λ (s : Syntax). OnOk r (new ≡ old ++ print s (names_of table) (nth_subtree (read table t) node))) (sym is)
    (subst (λ u. OnOk r (new ≡ old ++ print chosen (names_of table) u)) part ok)

pub write_term-requires-clause-node : goal.write_term-requires-clause-node
write_term-requires-clause-node c = there c.args.term.now c.args.node c.requires.node

pub write_term-requires-clause-printable : goal.write_term-requires-clause-printable
write_term-requires-clause-printable c = printable c.args.symbols.now c.args.term.now c.args.node c.requires.node c.requires.live

pub returns-in-Standmath : goal.returns-in-Standmath
returns-in-Standmath c = written c.args.symbols.now c.args.term.now c.args.node c.requires.node c.args.syntax Standmath c.in-Standmath.is c.args.into.now.items c.write_term.new.into.items c.write_term.result c.write_term.ensures.ok

pub write_term-requires-in-LispM-clause-node : goal.write_term-requires-in-LispM-clause-node
write_term-requires-in-LispM-clause-node c = there c.args.term.now c.args.node c.requires.node

pub write_term-requires-in-LispM-clause-printable : goal.write_term-requires-in-LispM-clause-printable
write_term-requires-in-LispM-clause-printable c = printable c.args.symbols.now c.args.term.now c.args.node c.requires.node c.requires.live

pub returns-in-LispM : goal.returns-in-LispM
returns-in-LispM c = written c.args.symbols.now c.args.term.now c.args.node c.requires.node c.args.syntax LispM c.in-LispM.is c.args.into.now.items c.write_term-in-LispM.new.into.items c.write_term-in-LispM.result c.write_term-in-LispM.ensures.ok
