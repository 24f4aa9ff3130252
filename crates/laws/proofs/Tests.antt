-- Boolean tests, taken apart and put together. Assumes nothing.
use Prim.Native.Nat.{ℕ}
use mathlib.Core.{Bool.{Bool, true, false, cond, not, ◌&&◌, ◌||◌}, Logic.{◌≢◌, ◌⊎◌, inl, inr}, Path.{◌≡◌, refl, sym, subst}, List.{List, [], ◌∷◌}}
use lib.Dec.{T, T_not, not_T, eqb, eqb→eq, eqb_refl}
use Rattle.rules.specs.Words.{◌implies◌, Check, ◌⇒◌, first}

pub and_l : (a b : Bool) → T (a && b) → T a
and_l true b h = tt
and_l false b h = absurd h

pub and_r : (a b : Bool) → T (a && b) → T b
and_r true b h = h
and_r false b h = absurd h

pub and_i : (a b : Bool) → T a → T b → T (a && b)
and_i true b h k = k
and_i false b h k = absurd h

pub or_cases : (a b : Bool) → T (a || b) → T a ⊎ T b
or_cases true b h = inl tt
or_cases false b h = inr h

pub or_i : (a b : Bool) → T a → T (a || b)
or_i true b h = tt
or_i false b h = absurd h

pub or_j : (a b : Bool) → T b → T (a || b)
or_j true b h = tt
or_j false b h = h

pub eq→eqb : (a b : ℕ) → a ≡ b → T (eqb a b)
eq→eqb a b h = subst (λ (k : ℕ). T (eqb a k)) h (eqb_refl a)

pub neqb→ne : (a b : ℕ) → T (not (eqb a b)) → a ≢ b
neqb→ne a b h e = T_not (eqb a b) h (eq→eqb a b e)

pub ne→neqb : (a b : ℕ) → a ≢ b → T (not (eqb a b))
ne→neqb a b h = not_T (eqb a b) (λ t. h (eqb→eq a b t))

pub same : (a b : Bool) → (T a → T b) → (T b → T a) → a ≡ b
same true true f g = refl
same true false f g = absurd (f tt)
same false true f g = absurd (g tt)
same false false f g = refl

pub eqb_turn : (a b : ℕ) → eqb a b ≡ eqb b a
eqb_turn a b = same (eqb a b) (eqb b a) (λ h. eq→eqb b a (sym (eqb→eq a b h))) (λ h. eq→eqb a b (sym (eqb→eq b a h)))

-- both ways of a test, with the fact
pub by_test {ℓ} : {C : Type ℓ} (b : Bool) → (T b → C) → (T (not b) → C) → C
by_test true f g = f tt
by_test false f g = g tt

pub not_elim : (b : Bool) → T (not (not b)) → T b
not_elim true h = tt
not_elim false h = h

pub not_intro : (b : Bool) → T b → T (not (not b))
not_intro true h = tt
not_intro false h = h

-- an answer's code is 0: no refusal applied
abbrev pub Passes : List Check → Type 0
Passes [] = Unit {0}
Passes ((b ⇒ n) ∷ l) = T (not b) × Passes l

abbrev pub coded : List Check → Bool
coded [] = true
coded ((b ⇒ n) ∷ l) = not (eqb n 0) && coded l

pub first_out : (l : List Check) → T (coded l) → T (eqb (first l) 0) → Passes l
unfolding first
first_out [] c h = tt
first_out ((true ⇒ n) ∷ l) c h = absurd (T_not (eqb n 0) (and_l (not (eqb n 0)) (coded l) c) h)
first_out ((false ⇒ n) ∷ l) c h = (tt, first_out l (and_r (not (eqb n 0)) (coded l) c) h)

pub first_in : (l : List Check) → Passes l → T (eqb (first l) 0)
unfolding first
first_in [] h = tt
first_in ((true ⇒ n) ∷ l) h = absurd h.0
first_in ((false ⇒ n) ∷ l) h = first_in l h.1

pub nand : (a b : Bool) → T (not (a && b)) → T a → T (not b)
nand true b h k = h
nand false b h k = absurd k

pub nor_l : (a b : Bool) → T (not (a || b)) → T (not a)
nor_l true b h = h
nor_l false b h = tt

pub nor_r : (a b : Bool) → T (not (a || b)) → T (not b)
nor_r true b h = absurd h
nor_r false b h = h

pub cond_yes : (b x y : Bool) → T b → T x → T (cond b x y)
cond_yes true x y h k = k
cond_yes false x y h k = absurd h

pub cond_no : (b x y : Bool) → T (not b) → T y → T (cond b x y)
cond_no true x y h k = absurd h
cond_no false x y h k = k

pub yes_cond : (b x y : Bool) → T (cond b x y) → T b → T x
yes_cond true x y h k = h
yes_cond false x y h k = absurd k

pub no_cond : (b x y : Bool) → T (cond b x y) → T (not b) → T y
no_cond true x y h k = absurd k
no_cond false x y h k = h

-- "if the first, then the second"
pub implies_out : (a b : Bool) → T (a implies b) → T a → T b
unfolding ◌implies◌
implies_out true b h k = h
implies_out false b h k = absurd k

pub implies_in : (a b : Bool) → (T a → T b) → T (a implies b)
unfolding ◌implies◌
implies_in true b h = h tt
implies_in false b h = tt

pub ruleset tests = (and_l, and_r, and_i, or_i, or_j, eqb→eq, eq→eqb, neqb→ne, ne→neqb, nor_l, nor_r, not_elim, not_intro, cond_yes, cond_no)
