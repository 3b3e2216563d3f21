-- Terms in a vector.
use Rattle.std.proofs.Common.{◌≡◌, ℕ, ◌+◌, ◌<◌, List, length, get_or, sym, ◌∙◌, ap, subst, arith}
use Rattle.std.specs.List.{AllByRecursion}
use Rattle.std.proofs.lemmas.List.{get_or-map, get_or_default}
use Rattle.std.proofs.lemmas.List.Elements.{All-from_recursion}
use Rattle.eq_base.specs.Tree.{Tree, node, empty, head_of, arity_of, size, subtrees, nth_subtree}
use Rattle.eq_base.specs.Preorder.{labels, IsPreorder}
use Rattle.eq_base.specs.Cells.{TakesArguments}
use Rattle.eq_base.specs.Vectors.{term_of, IsTermVector}
use Rattle.eq_base.specs.View.{tree_at}
use Rattle.eq_base.specs.declared.head.Head.{Head}
use Rattle.eq_base.specs.declared.head.Head.TheVariants.{Symbol}
use Rattle.eq_base.specs.declared.preorder.Node.{Node}
use Rattle.eq_base.proofs.Ends.{length-labels}
use Rattle.eq_base.proofs.Reading.{length-nodes, item_is, arity_is, end_is}

-- what holds of each label holds of that of each cell
pub label_holds : {X : Type 0} (P : X × ℕ → Type 0) (nodes : List (Node X)) (k : ℕ) (n : Node X) → AllByRecursion P (labels nodes) → n ≡ get_or nodes k n → k < length nodes → P (n.item, n.arity)
label_holds {X} P nodes k n all read lt =
    let label : Node X → X × ℕ = λ m. (m.item, m.arity) in
    let within : k < length (labels nodes) = omega (arith, length-labels nodes) in
    let here : get_or (labels nodes) k (label n) ≡ label n = get_or-map label nodes k n (label n) lt ∙ ap label (sym read) in
    subst P here (All-from_recursion P (labels nodes) all k (label n) within)

module _ (nodes : List (Node Head)) (t : Tree Head) (is : term_of nodes ≡ t) (vector : IsTermVector nodes) where
  preorder : IsPreorder t nodes
  preorder = subst (λ u. IsPreorder u nodes) is vector.preorder

  pub length-term : length nodes ≡ size t
  length-term = length-nodes t nodes preorder

  module _ (k : ℕ) (n : Node Head) (read : n ≡ get_or nodes k n) (lt : k < size t) where
    pub term_head : n.item ≡ head_of (nth_subtree t k)
    term_head = item_is t nodes preorder k n read lt

    pub term_arity : n.arity ≡ arity_of (nth_subtree t k)
    term_arity = arity_is t nodes preorder k n read lt

    pub term_end : n.end ≡ k + size (nth_subtree t k)
    term_end = end_is t nodes preorder k n read lt

    pub term_taken : TakesArguments (head_of (nth_subtree t k)) n.arity
    term_taken =
        let within : k < length nodes = omega (arith, length-term) in
        subst (λ h. TakesArguments h n.arity) term_head (label_holds (λ l. TakesArguments l.0 l.1) nodes k n vector.arguments read within)

-- ---- the trees of the nodes

pub tree_at-subtrees : (t : Tree Head) (k : ℕ) → k < length (subtrees t) → tree_at (subtrees t) k ≡ nth_subtree t k
tree_at-subtrees t k lt = get_or_default (subtrees t) k (node (Symbol 0) empty) t lt
