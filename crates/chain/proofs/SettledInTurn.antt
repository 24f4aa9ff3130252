-- Settling one domain after the other settles them all: an executable has one domain, and one that lost it has none. Assumes nothing.
use Prim.Native.Nat.{ℕ, zero, suc, ◌+◌, ◌≤◌, ◌<◌}
use mathlib.Core.{Bool.{Bool, true, false, cond, not, ◌||◌}, Path.{◌≡◌, sym, ap, ◌∙◌, refl, ap₂}}
use mathlib.Core.{List.{List, [], ◌∷◌, map, Memᴰ}, Logic.◌≢◌}
use lib.{Dec.{eqb, T, eqb→eq}, ListN.{length, length-map}}
use native.Mathlib.Omega.{arith}
use borrow.Author.Tests.{eq-eqb, ne_eqb}
use Rattle.records.specs.{Phone.{Trust, in_domain, Phone, decode, encode, with_executables, executable_at, put_executable}, declared.Executable.Executable}
use Rattle.records.specs.Frame.{Framed}
use Rattle.chain.specs.{SlotWords.{chained_in}, Settling.{settled_in, settle_in, DomainsKnown}}
use Rattle.rules.specs.{Chains.chains_to, Effects.{settled, settle}}
use Rattle.laws.proofs.{Accepts.T_true, Tests.{neqb→ne, by_test}, Tables.{executables, says, framed_as}, SlotSweeps.{Sweeping, sweep_goes_on, sweep_skips}}

-- an executable that does not chain loses its domain, and any other is not touched
module _ (n : ℕ) (u : Trust) {x y : Executable} (q : x ≡ y) {b : Bool} (e : b ≡ chained_in n u x) where
  settled_by : (z : Bool) → b ≡ z → cond z y (in_domain 0 y) ≡ settled_in n u y
  unfolding settled_in
  settled_by z h = ap (λ z. cond z y (in_domain 0 y)) (sym h ∙ e ∙ ap (chained_in n u) q)

  settled_written : b ≡ false → in_domain 0 y ≡ settled_in n u y
  settled_written h = settled_by false h

  settled_skipped : b ≡ true → y ≡ settled_in n u y
  settled_skipped h = settled_by true h

module _ (t : Trust) where
  -- an executable of another domain stays as it is
  other : (d : ℕ) (x : Executable) → x.domain ≢ d → settled_in d t x ≡ x
  unfolding settled_in chained_in
  other d x h = ap (λ b. cond (not b || chains_to t x.signing d) x (in_domain 0 x)) (ne_eqb x.domain d h)

  -- whether one of domain d keeps it or not, the turn of another domain changes nothing
  stays : (d k : ℕ) (x : Executable) → x.domain ≡ d → d ≢ k → 0 ≢ k → (b : Bool) → settled_in k t (cond b x (in_domain 0 x)) ≡ cond b x (in_domain 0 x)
  stays d k x e n z true = other k x (λ q. n (sym e ∙ q))
  stays d k x e n z false = other k (in_domain 0 x) z

  -- its own turn is settling
  own : (d : ℕ) (x : Executable) → x.domain ≡ d → d ≢ 0 → settled_in d t x ≡ settled t x
  unfolding settled_in settled chained_in
  own d x e z =
      ap (λ b. cond (not b || chains_to t x.signing d) x (in_domain 0 x)) (eq-eqb x.domain d e)
      ∙ ap (λ k. cond (chains_to t x.signing k) x (in_domain 0 x)) (sym e)
      ∙ ap (λ b. cond (b || chains_to t x.signing x.domain) x (in_domain 0 x)) (sym (ne_eqb x.domain 0 (λ q. z (sym e ∙ q))))

  settled_stays : (d k : ℕ) (x : Executable) → x.domain ≡ d → d ≢ k → 0 ≢ k → settled_in k t (settled t x) ≡ settled t x
  unfolding settled
  settled_stays d k x e n z = stays d k x e n z (eqb x.domain 0 || chains_to t x.signing x.domain)

  none : (x : Executable) → x.domain ≡ 0 → x ≡ settled t x
  unfolding settled
  none x e = ap (λ b. cond (b || chains_to t x.signing x.domain) x (in_domain 0 x)) (sym (eq-eqb x.domain 0 e))

  -- one whose chain stands keeps its domain, and one without a domain has none to lose
  kept : (x : Executable) → x.domain ≢ 0 → T (chains_to t x.signing x.domain) → settled t x ≡ x
  unfolding settled
  kept x z c = rw (ne_eqb x.domain 0 z, T_true (chains_to t x.signing x.domain) c)

  unlost : (x : Executable) → x.domain ≡ 0 → (b : Bool) → cond b x (in_domain 0 x) ≡ x
  unlost x e true = refl
  unlost x e false = ap (λ k. in_domain k x) (sym e)

  -- where those of other domains still chain, the turn of domain d is all of settling
  own_turn : (d : ℕ) (x : Executable) → (x.domain ≢ 0 → x.domain ≢ d → T (chains_to t x.signing x.domain)) → settled_in d t x ≡ settled t x
  unfolding settled_in
  own_turn d x h =
      by_test (eqb x.domain 0) (λ y. let e = eqb→eq x.domain 0 y in unlost x e (chained_in d t x) ∙ none x e)
      (λ n.
      let z = neqb→ne x.domain 0 n in
      by_test (eqb x.domain d) (λ y. let e = eqb→eq x.domain d y in own d x e (λ q. z (e ∙ q)))
      (λ m. let o = neqb→ne x.domain d m in other d x o ∙ sym (kept x z (h z o))))

  turns : (x : Executable) → x.domain ≤ 3 → settled_in 3 t (settled_in 2 t (settled_in 1 t x)) ≡ settled t x
  turns x h = go x.domain refl h
    where
      go : (d : ℕ) → x.domain ≡ d → d ≤ 3 → settled_in 3 t (settled_in 2 t (settled_in 1 t x)) ≡ settled t x
      go zero e h =
          ap (λ y. settled_in 3 t (settled_in 2 t y)) (other 1 x (λ q. omega (arith, e, q)))
          ∙ ap (settled_in 3 t) (other 2 x (λ q. omega (arith, e, q)))
          ∙ other 3 x (λ q. omega (arith, e, q))
          ∙ none x e
      go (suc zero) e h =
          ap (λ y. settled_in 3 t (settled_in 2 t y)) (own 1 x e (λ q. omega arith))
          ∙ ap (settled_in 3 t) (settled_stays 1 2 x e (λ q. omega arith) (λ q. omega arith))
          ∙ settled_stays 1 3 x e (λ q. omega arith) (λ q. omega arith)
      go (suc (suc zero)) e h =
          ap (λ y. settled_in 3 t (settled_in 2 t y)) (other 1 x (λ q. omega (arith, e, q)))
          ∙ ap (settled_in 3 t) (own 2 x e (λ q. omega arith))
          ∙ settled_stays 2 3 x e (λ q. omega arith) (λ q. omega arith)
      go (suc (suc (suc zero))) e h =
          ap (λ y. settled_in 3 t (settled_in 2 t y)) (other 1 x (λ q. omega (arith, e, q)))
          ∙ ap (settled_in 3 t) (other 2 x (λ q. omega (arith, e, q)))
          ∙ own 3 x e (λ q. omega arith)
      go (suc (suc (suc (suc d)))) e h = absurd (omega arith)

  all_turns : (l : List Executable) → ((x : Executable) → Memᴰ x l → x.domain ≤ 3)
      → map (settled_in 3 t) (map (settled_in 2 t) (map (settled_in 1 t) l)) ≡ map (settled t) l
  all_turns [] h = refl
  all_turns (x ∷ l) h = ap₂ (λ y r. y ∷ r) (turns x (h x (Memᴰ.head refl))) (all_turns l (λ y m. h y (Memᴰ.tail m)))

  all_own : (d : ℕ) (l : List Executable)
      → ((x : Executable) → Memᴰ x l → x.domain ≢ 0 → x.domain ≢ d → T (chains_to t x.signing x.domain))
      → map (settled_in d t) l ≡ map (settled t) l
  all_own d [] h = refl
  all_own d (x ∷ l) h = ap₂ (λ y r. y ∷ r) (own_turn d x (h x (Memᴰ.head refl))) (all_own d l (λ y m. h y (Memᴰ.tail m)))

by_domains : (p : Phone) → DomainsKnown p → settle_in 3 (settle_in 2 (settle_in 1 p)) ≡ settle p
unfolding settle_in settle
by_domains p k = ap (λ l. with_executables l p) (all_turns p.trust p.executables k.known)

pub settle_own : (d : ℕ) (p : Phone)
    → ((x : Executable) → Memᴰ x p.executables → x.domain ≢ 0 → x.domain ≢ d → T (chains_to p.trust x.signing x.domain))
    → settle_in d p ≡ settle p
unfolding settle_in settle
settle_own d p h = ap (λ l. with_executables l p) (all_own p.trust d p.executables h)

-- ---- in an image

pub turn_framed : (d : ℕ) (s : List ℕ) {s₁ : List ℕ} → Framed s → s₁ ≡ encode (settle_in d (decode s)) → Framed s₁
unfolding settle_in
turn_framed d s g w =
    let f = settled_in d (decode s).trust in
    framed_as (settle_in d (decode s)) w (executables.put_sized (map f (decode s).executables) (decode s) (length-map (decode s).executables f) g.sized)

pub turns_written : (s s₁ s₂ : List ℕ) {s₃ : List ℕ} → DomainsKnown (decode s) → s₁ ≡ encode (settle_in 1 (decode s))
    → s₂ ≡ encode (settle_in 2 (decode s₁)) → s₃ ≡ encode (settle_in 3 (decode s₂)) → s₃ ≡ encode (settle (decode s))
turns_written s s₁ s₂ k e₁ e₂ e₃ =
    e₃
    ∙ ap (λ p. encode (settle_in 3 p)) (says (settle_in 2 (decode s₁)) e₂)
    ∙ ap (λ p. encode (settle_in 3 (settle_in 2 p))) (says (settle_in 1 (decode s)) e₁)
    ∙ ap encode (by_domains (decode s) k)

-- ---- one executable after the other

module _ (d : ℕ) (s₀ : List ℕ) where
  -- the executables before slot i are settled
  abbrev pub Settling : List ℕ → ℕ → ℕ → Type 0
  Settling s slots i = Sweeping executables (settled_in d (decode s₀).trust) s₀ s slots i

  module _ {s : List ℕ} {slots i : ℕ} (z : Settling s slots i) where
    same_trust : (decode s).trust ≡ (decode s₀).trust
    same_trust = ap (λ p. p.trust) z.phone

    module _ (h : i < slots) {x : Executable} (q : x ≡ executable_at (decode s) i) {b : Bool} (e : b ≡ chained_in d (decode s).trust x) where
      told : b ≡ chained_in d (decode s₀).trust x
      told = e ∙ ap (λ t. chained_in d t x) same_trust

      pub settling_skips : b ≡ true → Settling s slots (i + 1)
      settling_skips y = sweep_skips executables _ z h (settled_skipped d (decode s₀).trust q told y)

      pub settling_writes : b ≡ false → {s₁ : List ℕ} → length s₁ ≡ length s
          → s₁ ≡ encode (put_executable i (in_domain 0 (executable_at (decode s) i)) (decode s)) → Settling s₁ slots (i + 1)
      settling_writes y m w = sweep_goes_on executables _ z h m (settled_written d (decode s₀).trust q told y) w
