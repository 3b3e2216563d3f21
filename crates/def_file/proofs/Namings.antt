-- From what comes of the first places to what comes of all.
use Rattle.std.proofs.Common.{◌≡◌, ℕ, ◌<◌, List, [], ◌∷◌, ◌++◌, inl, inr, refl, sym, subst, drop, length, get_or, Result, Err, ◌+◌, add-one, drop-cons}
use Rattle.std.proofs.lemmas.Option.{slice_get_within, get_or_from_slice_get}
use Rattle.std.specs.List.{AllByRecursion}
use Rattle.std.specs.Prelude.{Contains, slice_get, Some}
use Rattle.term_lex.specs.declared.token.Token.{Token}
use Rattle.term_lex.specs.declared.token.TokenKind.TheVariants.{Name}
use Rattle.term_lex.specs.declared.fault.Fault.{Fault}
use Rattle.written_terms.specs.Notation.{Notation}
use Rattle.def_file.specs.declared.error.FileError.{FileError}
use Rattle.def_file.specs.declared.error.FileError.TheVariants.{Refused, NoMemory}
use Rattle.def_file.specs.Errors.{IfRefused}
use Rattle.def_file.specs.Naming.{IsTaking}
use Rattle.def_file.specs.Names.{Place, Known, TakesAll, RefusesFirst}

-- a token, for the places past the end of a list
abbrev pub no_token : Token
no_token = record { kind = Name; from = 0; to = 0 }

-- the rest of a list, by its first element
pub drop-next : {A : Type 0} (xs : List A) (i : ℕ) (d : A) → i < length xs → drop i xs ≡ get_or xs i d ∷ drop (i + 1) xs
drop-next xs i d h = rw (add-one, drop-cons xs i d)

-- a list contains what stands at a number
pub contains_at : (xs : List (List ℕ)) (k : ℕ) (x : List ℕ) → slice_get xs k ≡ Some x → Contains xs x
contains_at xs k x e = (k, slice_get_within xs k x e, get_or_from_slice_get xs k x x e)

-- what holds of each of a list holds of each of its parts
pub all_split : {A : Type 0} (P : A → Type 0) (xs ys : List A) → AllByRecursion P (xs ++ ys) → AllByRecursion P xs × AllByRecursion P ys
all_split P [] ys h = (tt, h)
all_split P (x ∷ xs) ys (h, hs) = let s = all_split P xs ys hs in ((h, s.0), s.1)

module _ (notation : Notation) (text : List ℕ) where
  takes_append : (ps qs : List Place) (old mid new : Known) → TakesAll notation text old ps mid → TakesAll notation text mid qs new → TakesAll notation text old (ps ++ qs) new
  takes_append [] qs old mid new e t = subst (λ k. TakesAll notation text k qs new) e t
  takes_append (p ∷ ps) qs old mid new (next, t, ts) u = (next, t, takes_append ps qs next mid new ts u)

  refuses_behind : (ps qs : List Place) (old mid : Known) (f : Fault) → TakesAll notation text old ps mid → RefusesFirst notation text mid qs f → RefusesFirst notation text old (ps ++ qs) f
  refuses_behind [] qs old mid f e r = subst (λ k. RefusesFirst notation text k qs f) e r
  refuses_behind (p ∷ ps) qs old mid f (next, t, ts) r = inr (next, t, refuses_behind ps qs next mid f ts r)

  refuses_before : (ps qs : List Place) (old : Known) (f : Fault) → RefusesFirst notation text old ps f → RefusesFirst notation text old (ps ++ qs) f
  refuses_before [] qs old f r = absurd r
  refuses_before (p ∷ ps) qs old f (inl r) = inl r
  refuses_before (p ∷ ps) qs old f (inr (next, t, r)) = inr (next, t, refuses_before ps qs next f r)

  -- some places were taken: whatever comes of the rest comes of all
  pub record IsUnderWay (old : Known) (places : List Place) (now : Known) (rest : List Place) : Type 0 where
    pub takes : (new : Known) → TakesAll notation text now rest new → TakesAll notation text old places new
    pub refuses : (f : Fault) → RefusesFirst notation text now rest f → RefusesFirst notation text old places f

  pub none_taken : (old : Known) (places : List Place) → IsUnderWay old places old places
  none_taken old places = record { takes = λ new t. t; refuses = λ f r. r }

  module _ (old now : Known) (places all front rest : List Place) (e : all ≡ front ++ rest) (u : IsUnderWay old places now all) where
    pub more_taken : (next : Known) → TakesAll notation text now front next → IsUnderWay old places next rest
    more_taken next t = record {
      takes = λ new ts. u.takes new (subst (λ ps. TakesAll notation text now ps new) (sym e) (takes_append front rest now next new t ts));
      refuses = λ f r. u.refuses f (subst (λ ps. RefusesFirst notation text now ps f) (sym e) (refuses_behind front rest now next f t r));
    }

    pub one_refused : (e : FileError) → IfRefused (RefusesFirst notation text now front) e → IfRefused (RefusesFirst notation text old places) e
    one_refused (Refused f) r = u.refuses f (subst (λ ps. RefusesFirst notation text now ps f) (sym e) (refuses_before front rest now f r))
    one_refused NoMemory r = tt

  -- a refusal of the places at an equal result
  pub taking_refused : {A : Type 0} (old new : Known) (places : List Place) (r : Result A FileError) (e : FileError) → r ≡ Err e → IfRefused (RefusesFirst notation text old places) e → IsTaking notation text old places new r
  taking_refused old new places r e same h = subst (IsTaking notation text old places new) (sym same) h

  pub all_taken : (old now : Known) (places rest : List Place) → rest ≡ [] → IsUnderWay old places now rest → TakesAll notation text old places now
  all_taken old now places rest e u = u.takes now (subst (λ ps. TakesAll notation text now ps now) (sym e) refl)
