-- A plan from its code and its slot, and back. Assumes nothing.
use Prim.Native.Nat.{ℕ, ◌≤◌, ◌<◌}
use mathlib.Core.{Bool.{Bool, true, false, cond, not, ◌&&◌, ◌||◌}, List.{List, [], ◌∷◌, ◌++◌}, Logic.◌≢◌, Path.{◌≡◌, refl, sym, ap, ◌∙◌}}
use native.Mathlib.Omega.{arith}
use borrow.Author.Tests.{ne_eqb}
use lib.{Dec.{T, T_not, eqb, eqb→eq}, ListN.{length, get_or}}
use Rattle.records.specs.{Phone.Phone, declared.Event.Event}
use Rattle.rules.specs.{Words.{between, any, Check, ◌⇒◌, first, first_place}, Forms.{listed, with_kind}}
use Rattle.rules.specs.Codes.{has_id, is_executable, names_certificate, certificate_known, executable_known, id_unknown, no_free_slot, code_of}
use Rattle.laws.proofs.{Accepts.T_true, Tests.{and_l, and_r, eq→eqb, nor_l, coded}}
use Rattle.keeping.proofs.Unrefused.{unrefused}
use Rattle.lookup.proofs.FirstWithin.{first_within}
use Rattle.std.specs.{Prelude.{Option, Some, None, Result, Ok, Err}, Result.IsErrAnd}
use Rattle.std.proofs.lemmas.Result.{err_from_is_err_and}
use Rattle.handling.specs.{declared.Refusal.Refusal, RefusalCodes.{refusal_code, by_code}, Plans.plan}

module _ {A : Type 0} (code : ℕ) (about : A) where
  -- a code that is not 0
  pub plan_refused : {c : ℕ} → 1 ≤ c → c ≡ code → Err c ≡ plan code about
  unfolding plan
  plan_refused {c} h q =
      ap (λ b. cond b (Ok about) (Err c)) (sym (ne_eqb c 0 (λ z. omega arith))) ∙ ap (λ m. plan m about) q

  pub plan_on : {x : A} → x ≡ about → 0 ≡ code → Ok x ≡ plan code about
  unfolding plan
  plan_on at q = ap Ok at ∙ ap (λ m. plan m about) q

-- ---- back

unfoldable code_of_plan : {A : Type 0} → Result A ℕ → ℕ
code_of_plan (Ok x) = 0
code_of_plan (Err c) = c

-- what a plan is about, or d
unfoldable about_or : {A : Type 0} → A → Result A ℕ → A
about_or d (Ok x) = x
about_or d (Err c) = d

-- what `?` returns: the reason is passed on
pub passed_on : {A : Type 0} {r : Result A Refusal} {why : Refusal} → IsErrAnd r (λ x. x ≡ why) → r ≡ Err why
passed_on {r = r} h = let p = err_from_is_err_and r h in p.1 ∙ ap Err p.2

-- the reason that a code names
reason_of : ℕ → Option Refusal
reason_of n = get_or named n None
  where
    named : List (Option Refusal)
    named =
        None ∷ None
        ∷ Some Refusal.Malformed ∷ Some Refusal.UnknownId ∷ Some Refusal.ActorNotAllowed ∷ Some Refusal.ClockBackwards ∷ Some Refusal.UnknownCard
        ∷ Some Refusal.CardState ∷ Some Refusal.CardAbsent ∷ Some Refusal.IdTaken ∷ Some Refusal.KeyElsewhere ∷ Some Refusal.OtherOperator
        ∷ Some Refusal.WrongKind ∷ Some Refusal.AnotherValid ∷ Some Refusal.NoFreeSlot ∷ Some Refusal.NeverAllowed ∷ Some Refusal.NoPermission
        ∷ Some Refusal.NoRecovery ∷ Some Refusal.PastItsDate ∷ []

reason_back : (why : Refusal) → reason_of (refusal_code why) ≡ Some why
unfolding reason_of
reason_back Refusal.Malformed = refl
reason_back Refusal.UnknownId = refl
reason_back Refusal.ActorNotAllowed = refl
reason_back Refusal.ClockBackwards = refl
reason_back Refusal.UnknownCard = refl
reason_back Refusal.CardState = refl
reason_back Refusal.CardAbsent = refl
reason_back Refusal.IdTaken = refl
reason_back Refusal.KeyElsewhere = refl
reason_back Refusal.OtherOperator = refl
reason_back Refusal.WrongKind = refl
reason_back Refusal.AnotherValid = refl
reason_back Refusal.NoFreeSlot = refl
reason_back Refusal.NeverAllowed = refl
reason_back Refusal.NoPermission = refl
reason_back Refusal.NoRecovery = refl
reason_back Refusal.PastItsDate = refl

-- no reason to refuse has code 0, and no two have one code
pub reason_not_0 : (why : Refusal) → refusal_code why ≢ 0
unfolding reason_of
reason_not_0 why z = let none : None ≡ Some why = ap reason_of (sym z) ∙ reason_back why in absurd cc

pub same_reason : (a b : Refusal) → refusal_code a ≡ refusal_code b → a ≡ b
same_reason a b h = let both : Some a ≡ Some b = sym (reason_back a) ∙ ap reason_of h ∙ reason_back b in cc

-- nothing is lost where a refusal is told by its code
pub same_coded : {A : Type 0} (r r' : Result A Refusal) → by_code r ≡ by_code r' → r ≡ r'
same_coded (Ok x) (Ok y) h = let both : x ≡ y = cc in ap Ok both
same_coded (Err a) (Err b) h = let both : refusal_code a ≡ refusal_code b = cc in ap Err (same_reason a b both)
same_coded (Ok x) (Err b) h = absurd cc
same_coded (Err a) (Ok y) h = absurd cc

module _ {A : Type 0} (code : ℕ) (about : A) {r : Result A Refusal} (p : by_code r ≡ plan code about) where
  tells : {q : Result A Refusal} → r ≡ q → code_of_plan (by_code q) ≡ code
  unfolding plan code_of_plan
  tells {q} e = ap code_of_plan (ap by_code (sym e) ∙ p) ∙ go (eqb code 0) (λ b. eqb→eq code 0 b)
    where
      go : (b : Bool) → (T b → code ≡ 0) → code_of_plan (cond b (Ok about) (Err code)) ≡ code
      go true h = sym (h tt)
      go false h = refl

  pub refused_code : {why : Refusal} → r ≡ Err why → refusal_code why ≡ code
  unfolding code_of_plan
  refused_code e = tells e

  pub on_code : {x : A} → r ≡ Ok x → code ≡ 0
  unfolding code_of_plan
  on_code e = sym (tells e)

  pub on_slot : {x : A} → r ≡ Ok x → x ≡ about
  unfolding plan about_or
  on_slot e = ap (λ m. about_or about (by_code m)) (sym e) ∙ ap (about_or about) p ∙ ap (λ m. about_or about (plan m about)) (on_code e)

-- ---- the slot of an event that is not refused is a slot

first_of_two : (a k b : Bool) → T (not ((a && not k) || b)) → T a → T k
first_of_two true true b h t = tt
first_of_two true false b h t = absurd h
first_of_two false k b h t = absurd t

second_of_two : (a b k : Bool) → T (not (a || (b && not k))) → T b → T k
second_of_two true b k h t = absurd h
second_of_two false true true h t = tt
second_of_two false true false h t = absurd h
second_of_two false false k h t = absurd t

first_of_three : (a k b c : Bool) → T (not (((a && not k) || b) || c)) → T a → T k
first_of_three a k b c h t = first_of_two a k b (nor_l ((a && not k) || b) c h) t

second_of_three : (a b k c : Bool) → T (not ((a || (b && not k)) || c)) → T b → T k
second_of_three a b k c h t = second_of_two a b k (nor_l (a || (b && not k)) c h) t

module _ (p : Phone) (e : Event) (k : ℕ) (z : code_of p (with_kind k e) ≡ 0) where
  -- of the two records that a replace names the second is left aside
  abbrev one_unknown : Bool
  one_unknown =
      (names_certificate k && not (certificate_known p e.id))
      || (between 11 15 k && not (executable_known p e.id))
      || (eqb k 9 && any (λ n. not (certificate_known p n)) (listed e))

  known_ids : T (not one_unknown)
  unfolding id_unknown
  known_ids =
      nor_l one_unknown (eqb k 16 && not (certificate_known p e.second))
      (unrefused p (with_kind k e) (eq→eqb (code_of p (with_kind k e)) 0 z)).known

  has_room : T (not (no_free_slot p (with_kind k e)))
  has_room = (unrefused p (with_kind k e) (eq→eqb (code_of p (with_kind k e)) 0 z)).room

  pub certificate_within : T (names_certificate k) → first_place (has_id e.id) p.trust.certificates < length p.trust.certificates
  unfolding certificate_known
  certificate_within h =
      first_within (has_id e.id) p.trust.certificates refl
      (T_true (any (has_id e.id) p.trust.certificates)
      (first_of_three (names_certificate k) (certificate_known p e.id) (between 11 15 k && not (executable_known p e.id))
      (eqb k 9 && any (λ n. not (certificate_known p n)) (listed e)) known_ids h))

  pub executable_within : T (between 11 15 k) → first_place (is_executable e.id) p.executables < length p.executables
  unfolding executable_known
  executable_within h =
      first_within (is_executable e.id) p.executables refl
      (T_true (any (is_executable e.id) p.executables)
      (second_of_three (names_certificate k && not (certificate_known p e.id)) (between 11 15 k) (executable_known p e.id)
      (eqb k 9 && any (λ n. not (certificate_known p n)) (listed e)) known_ids h))

  pub free_certificate_within : T (eqb k 5) → first_place (has_id 0) p.trust.certificates < length p.trust.certificates
  unfolding no_free_slot
  free_certificate_within h =
      first_within (has_id 0) p.trust.certificates refl
      (T_true (any (has_id 0) p.trust.certificates)
      (first_of_two (eqb k 5) (any (has_id 0) p.trust.certificates) (eqb k 10 && not (any (is_executable 0) p.executables)) has_room h))

  pub free_executable_within : T (eqb k 10) → first_place (is_executable 0) p.executables < length p.executables
  unfolding no_free_slot
  free_executable_within h =
      first_within (is_executable 0) p.executables refl
      (T_true (any (is_executable 0) p.executables)
      (second_of_two (eqb k 5 && not (any (has_id 0) p.trust.certificates)) (eqb k 10) (any (is_executable 0) p.executables) has_room h))

-- ---- rows, and then more of them

-- a code that the first rows give stands
pub stands : {r : ℕ} (l m : List Check) → r ≡ first l → r ≢ 0 → r ≡ first (l ++ m)
unfolding first
stands [] m q n = absurd (n q)
stands ((true ⇒ c) ∷ l) m q n = q
stands ((false ⇒ c) ∷ l) m q n = stands l m q n

-- where they give none the rest decides
pub decides : {r : ℕ} (l m : List Check) → T (coded l) → r ≡ first l → r ≡ 0 → first m ≡ first (l ++ m)
unfolding first
decides [] m k q z = refl
decides ((true ⇒ c) ∷ l) m k q z = absurd (T_not (eqb c 0) (and_l (not (eqb c 0)) (coded l) k) (eq→eqb c 0 (sym q ∙ z)))
decides ((false ⇒ c) ∷ l) m k q z = decides l m (and_r (not (eqb c 0)) (coded l) k) q z
