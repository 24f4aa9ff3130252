-- A loop that writes f of each slot in its place: what it has done after i of them, in a list and in an image. Assumes nothing.
use Prim.Native.Nat.{ℕ, zero, suc, ◌+◌, ◌-◌, ◌≤◌, ◌<◌}
use mathlib.Core.{Bool.{Bool, false, ◌||◌, or-false, or_assoc}, List.{List, [], ◌∷◌, map}, Path.{◌≡◌, refl, sym, ap, ◌∙◌, subst}}
use native.{Mathlib.Nat.{le_of_suc-le-suc, not-suc-le-zero}, Mathlib.Numerals.add-one, Mathlib.Omega.arith}
use lib.{ListN.{length, get_or, drop, set, length-set}, Seq.set-get_or}
use Rattle.records.specs.{Phone.{Phone, decode, encode}, Frame.Framed}
use Rattle.rules.specs.{Words.any, Sweeping.{map_at, swept}}
use Rattle.laws.proofs.{Loops.{any_rest, any_next, any_end}, Tables.{Part, says, framed_as}}

-- ---- in a list

module _ {A : Type 0} where
  -- f that does not look at the number
  map_at_same : (f : A → A) (l : List A) → map_at (λ n. f) l ≡ map f l
  map_at_same f [] = refl
  map_at_same f (x ∷ l) = ap (λ r. f x ∷ r) (map_at_same f l)

  swept_all : (f : ℕ → A → A) (l : List A) → swept f (length l) l ≡ map_at f l
  swept_all f [] = refl
  swept_all f (x ∷ l) = ap (λ r. f zero x ∷ r) (swept_all (λ n. f (suc n)) l)

  -- slot i is still as it was
  swept_here : (f : ℕ → A → A) (d : A) (l : List A) (i : ℕ) → get_or (swept f i l) i d ≡ get_or l i d
  swept_here f d l zero = refl
  swept_here f d [] (suc i) = refl
  swept_here f d (x ∷ l) (suc i) = swept_here (λ n. f (suc n)) d l i

  swept_suc : (f : ℕ → A → A) (d : A) (l : List A) (i : ℕ) → i < length l → set (swept f i l) i (f i (get_or l i d)) ≡ swept f (suc i) l
  swept_suc f d [] i h = absurd (not-suc-le-zero h)
  swept_suc f d (x ∷ l) zero h = refl
  swept_suc f d (x ∷ l) (suc i) h = ap (λ r. f zero x ∷ r) (swept_suc (λ n. f (suc n)) d l i (le_of_suc-le-suc h))

  swept_next : (f : ℕ → A → A) (d : A) (l : List A) (i : ℕ) → i < length l → set (swept f i l) i (f i (get_or l i d)) ≡ swept f (i + 1) l
  swept_next f d l i h = swept_suc f d l i h ∙ ap (λ n. swept f n l) (sym (add-one i))

-- what a loop has gathered of a test, and what is to come
module _ {A : Type 0} (t : A → Bool) (d : A) (l : List A) (i : ℕ) (b : Bool) {w : Bool} where
  pub gathers : {c : Bool} → (b || any t (drop i l)) ≡ w → i < length l → c ≡ t (get_or l i d) → (b || c || any t (drop (i + 1) l)) ≡ w
  gathers {c} inv h e =
      or_assoc b c (any t (drop (i + 1) l)) ∙ ap (λ c. b || (c || any t (drop (i + 1) l))) e ∙ ap (λ c. b || c) (sym (any_rest d l i t h)) ∙ inv

  pub gathers_none : (b || any t (drop i l)) ≡ w → i < length l → t (get_or l i d) ≡ false → (b || any t (drop (i + 1) l)) ≡ w
  gathers_none inv h e = ap (λ c. b || c) (sym (any_next d l i t h e)) ∙ inv

  pub gathered : (b || any t (drop i l)) ≡ w → length l ≤ i → b ≡ w
  gathered inv h = sym (or-false b) ∙ ap (λ c. b || c) (sym (any_end d l i t h)) ∙ inv

-- ---- in an image

-- s is the image s₀ after i of its slots, with what the next turn asks: f sees the number of a slot too
pub record SweepingAt {A : Type 0} (k : Part A) (f : ℕ → A → A) (s₀ s : List ℕ) (slots i : ℕ) : Type 0 where
  pub below : i ≤ slots
  every_slot : slots ≡ length (k.slots (decode s₀))
  pub as_many : slots ≡ length (k.slots (decode s))
  pub same_length : length s ≡ length s₀
  pub framed : Framed s
  pub phone : decode s ≡ k.put (swept f i (k.slots (decode s₀))) (decode s₀)

-- the same where f does not look at it
abbrev pub Sweeping : {A : Type 0} → Part A → (A → A) → List ℕ → List ℕ → ℕ → ℕ → Type 0
Sweeping k f s₀ s slots i = SweepingAt k (λ n. f) s₀ s slots i

module _ {A : Type 0} (k : Part A) (f : ℕ → A → A) where
  pub sweep_starts : {s : List ℕ} {slots : ℕ} → Framed s → slots ≡ length (k.slots (decode s)) → SweepingAt k f s s slots 0
  sweep_starts {s} h e =
      record { below = omega arith; every_slot = e; as_many = e; same_length = refl; framed = h; phone = sym (k.put_same (decode s)) }

  -- slot i of the phone p, after those before it
  next_phone : (p : Phone) (i : ℕ) → i < length (k.slots p)
      → let q = k.put (swept f i (k.slots p)) p in
      k.put (set (k.slots q) i (f i (get_or (k.slots q) i k.none))) q ≡ k.put (swept f (i + 1) (k.slots p)) p
  next_phone p i h =
      let d = k.none in
      let w = swept f i (k.slots p) in
      ap (λ l. k.put (set l i (f i (get_or l i d))) (k.put w p)) (k.put_slots w p)
      ∙ k.put_put w (set w i (f i (get_or w i d))) p
      ∙ ap (λ x. k.put (set w i (f i x)) p) (swept_here f d (k.slots p) i)
      ∙ ap (λ l. k.put l p) (swept_next f d (k.slots p) i h)

  pub sweep_goes_on : {s₀ s s' : List ℕ} {slots i : ℕ} {y : A} → SweepingAt k f s₀ s slots i → i < slots → length s' ≡ length s
      → y ≡ f i (get_or (k.slots (decode s)) i k.none) → s' ≡ encode (k.put (set (k.slots (decode s)) i y) (decode s))
      → SweepingAt k f s₀ s' slots (i + 1)
  sweep_goes_on {s₀} {s} {s'} {slots} {i} {y} z h m e w =
      let q = k.put (set (k.slots (decode s)) i y) (decode s) in
      let said : decode s' ≡ q = says q w in
      let many : length (set (k.slots (decode s)) i y) ≡ length (k.slots (decode s)) = length-set (k.slots (decode s)) i y in
      record {
        below = omega arith;
        every_slot = z.every_slot;
        as_many = z.as_many ∙ sym many ∙ sym (ap length (k.put_slots (set (k.slots (decode s)) i y) (decode s))) ∙ ap (λ p. length (k.slots p)) (sym said);
        same_length = m ∙ z.same_length;
        framed = framed_as q w (k.put_sized (set (k.slots (decode s)) i y) (decode s) many z.framed.sized);
        phone =
            said ∙ ap (λ x. k.put (set (k.slots (decode s)) i x) (decode s)) e
            ∙ ap (λ p. k.put (set (k.slots p) i (f i (get_or (k.slots p) i k.none))) p) z.phone
            ∙ next_phone (decode s₀) i (subst (λ n. i < n) z.every_slot h);
      }

  -- slot i is still as it was
  pub sweep_here : {s₀ s : List ℕ} {slots i : ℕ} → SweepingAt k f s₀ s slots i
      → get_or (k.slots (decode s)) i k.none ≡ get_or (k.slots (decode s₀)) i k.none
  sweep_here {s₀} {s} {slots} {i} z =
      ap (λ p. get_or (k.slots p) i k.none) z.phone ∙ ap (λ l. get_or l i k.none) (k.put_slots (swept f i (k.slots (decode s₀))) (decode s₀))
      ∙ swept_here f k.none (k.slots (decode s₀)) i

  -- nothing is to be done to slot i
  pub sweep_skips : {s₀ s : List ℕ} {slots i : ℕ} → SweepingAt k f s₀ s slots i → i < slots
      → get_or (k.slots (decode s)) i k.none ≡ f i (get_or (k.slots (decode s)) i k.none)
      → SweepingAt k f s₀ s slots (i + 1)
  sweep_skips {s₀} {s} {slots} {i} z h e =
      sweep_goes_on z h refl e
      (z.framed.shaped ∙ ap encode (sym (k.put_same (decode s))) ∙ ap (λ l. encode (k.put l (decode s))) (sym (set-get_or (k.slots (decode s)) i k.none)))

  -- nor to any slot before r
  pub sweep_skips_to : {s₀ s : List ℕ} {slots : ℕ} (i r : ℕ) → i ≤ r → r ≤ slots
      → ((j : ℕ) → j < r → i ≤ j → get_or (k.slots (decode s)) j k.none ≡ f j (get_or (k.slots (decode s)) j k.none))
      → SweepingAt k f s₀ s slots i → SweepingAt k f s₀ s slots r
  sweep_skips_to {s₀} {s} {slots} i r le few same z = go (r - i) i (omega arith) (omega arith) z
    where
      go : (n j : ℕ) → j + n ≡ r → i ≤ j → SweepingAt k f s₀ s slots j → SweepingAt k f s₀ s slots r
      go zero j e h z = let q : j ≡ r = omega arith in subst (λ x. SweepingAt k f s₀ s slots x) q z
      go (suc n) j e h z = go n (j + 1) (omega arith) (omega arith) (sweep_skips z (omega arith) (same j (omega arith) h))

  sweep_said_at : {s₀ s : List ℕ} {slots i : ℕ} → SweepingAt k f s₀ s slots i → slots ≤ i → decode s ≡ k.put (map_at f (k.slots (decode s₀))) (decode s₀)
  sweep_said_at {s₀} {s} {slots} {i} z h =
      let all : i ≡ length (k.slots (decode s₀)) = omega arith in
      z.phone ∙ ap (λ n. k.put (swept f n (k.slots (decode s₀))) (decode s₀)) all
      ∙ ap (λ l. k.put l (decode s₀)) (swept_all f (k.slots (decode s₀)))

module _ {A : Type 0} (k : Part A) (f : A → A) where
  pub sweep_said : {s₀ s : List ℕ} {slots i : ℕ} → Sweeping k f s₀ s slots i → slots ≤ i → decode s ≡ k.put (map f (k.slots (decode s₀))) (decode s₀)
  sweep_said {s₀} z h = sweep_said_at k (λ n. f) z h ∙ ap (λ l. k.put l (decode s₀)) (map_at_same f (k.slots (decode s₀)))

  pub sweep_ends : {s₀ s : List ℕ} {slots i : ℕ} → Sweeping k f s₀ s slots i → slots ≤ i → s ≡ encode (k.put (map f (k.slots (decode s₀))) (decode s₀))
  sweep_ends z h = z.framed.shaped ∙ ap encode (sweep_said z h)
