-- What a table keeps while atoms and texts join it.
use Rattle.std.proofs.Common.{◌≡◌, ℕ, List, [], ◌∷◌, ◌++◌, inl, inr, refl, sym, ◌∙◌, ap, subst, append_assoc, append-nil, Some, slice_get}
use Rattle.eq_base.specs.declared.meeting.SymbolClass.{SymbolClass}
use Rattle.std.specs.Prelude.{Contains}
use Rattle.eq_base.specs.declared.meeting.SymbolClass.TheVariants.{TruthValues}
use Rattle.symbol_table.proofs.Places.{kept}
use Rattle.symbol_table.specs.Table.{Table, Declared, Includes, truth_values, IsDeclared, HasName, Interns, InternsAtom, InternsText, IsFront, Keeps, names_of}

-- an element keeps its number in a longer list
pub front_get : {A : Type 0} (old new : List A) (k : ℕ) (x : A) → IsFront old new → slice_get old k ≡ Some x → slice_get new k ≡ Some x
front_get old new k x (more, is) found = ap (λ xs. slice_get xs k) is ∙ kept old more k x found

pub front_refl : {A : Type 0} (xs : List A) → IsFront xs xs
front_refl xs = ([], sym (append-nil xs))

pub front_trans : {A : Type 0} (xs ys zs : List A) → IsFront xs ys → IsFront ys zs → IsFront xs zs
front_trans xs ys zs (more, is) (further, is') = (more ++ further, is' ∙ ap (λ l. l ++ further) is ∙ append_assoc xs more further)

pub keeps_refl : (table : Table) → Keeps table table
keeps_refl table = record { declared = refl; included = refl; atoms = front_refl table.atoms; texts = front_refl table.texts }

pub keeps_trans : (one two three : Table) → Keeps one two → Keeps two three → Keeps one three
keeps_trans one two three k l = record {
  declared = l.declared ∙ k.declared;
  included = l.included ∙ k.included;
  atoms = front_trans one.atoms two.atoms three.atoms k.atoms l.atoms;
  texts = front_trans one.texts two.texts three.texts k.texts l.texts;
}

-- a number that is given to bytes leaves the others
front_interned : (old new : List (List ℕ)) (bytes : List ℕ) (number : ℕ) → Interns old new bytes number → IsFront old new
front_interned old new bytes number i = elim i.kept [ inl same ↦ ([], same ∙ sym (append-nil old)) | inr added ↦ (bytes ∷ [], added.1) ]

pub keeps_atom : (old new : Table) (name : List ℕ) (number : ℕ) → InternsAtom old new name number → Keeps old new
keeps_atom old new name number (i, is) = record {
  declared = ap (λ (t : Table). t.declared) is;
  included = ap (λ (t : Table). t.included) is;
  atoms = front_interned old.atoms new.atoms name number i;
  texts = subst (IsFront old.texts) (sym (ap (λ (t : Table). t.texts) is)) (front_refl old.texts);
}

pub keeps_text : (old new : Table) (bytes : List ℕ) (number : ℕ) → InternsText old new bytes number → Keeps old new
keeps_text old new bytes number (i, is) = record {
  declared = ap (λ (t : Table). t.declared) is;
  included = ap (λ (t : Table). t.included) is;
  atoms = subst (IsFront old.atoms) (sym (ap (λ (t : Table). t.atoms) is)) (front_refl old.atoms);
  texts = front_interned old.texts new.texts bytes number i;
}

pub keeps_same : (old new : Table) → new ≡ old → Keeps old new
keeps_same old new is = subst (Keeps old) (sym is) (keeps_refl old)

-- what is declared and included stays
pub names_kept : (old new : Table) → Keeps old new → names_of new ≡ names_of old
names_kept old new k = λ i. record { declared = k.declared i; included = k.included i; atoms = []; texts = [] }

-- Two tables that declare and include the same.
module _ (one other : Table) (declared : one.declared ≡ other.declared) (included : one.included ≡ other.included) where
  pub includes_as : (class : SymbolClass) → Includes one class → Includes other class
  includes_as class has = subst (λ (classes : List SymbolClass). Contains classes class) included has

  pub declared_as : (name : List ℕ) (number arity : ℕ) → IsDeclared one name number arity → IsDeclared other name number arity
  declared_as name number arity is = record {
    listed = subst (λ (ds : List Declared). slice_get (truth_values ++ ds) number ≡ Some (record { name = name; arity = arity })) declared is.listed;
    known = λ lt. includes_as TruthValues (is.known lt);
  }

  pub named_as : (name : List ℕ) → HasName one name → HasName other name
  named_as name (number, arity, is) = (number, arity, declared_as name number arity is)
