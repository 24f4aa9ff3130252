-- Lines in a buffer: one after the other, or one before those that stand. Assumes nothing.
use Prim.Native.Nat.{ℕ, zero, suc, ◌+◌, ◌*◌, ◌≤◌}
use mathlib.Core.{Bool.Bool, List.{List, [], ◌∷◌, ◌++◌, map, reverse, append_assoc, reverse-cons, map-append}, Logic.◌≢◌}
use mathlib.Core.Path.{◌≡◌, refl, sym, ap, ap₂, subst, ◌∙◌}
use native.{Mathlib.Nat.zero-add, Mathlib.Numerals.add-one, Mathlib.Omega.arith}
use lib.{Dec.{eqb, eqb→eq}, ListN.{length, take, drop, length-append, length-map, length-reverse}, Seq.{length-take-le, drop_at}}
use Rattle.octets.specs.Octets.{put}
use Rattle.octets.proofs.ByteLaws.{put_none, length_put}
use Rattle.records.specs.{Phone.{Trust, joined}, declared.Certificate.Certificate}
use Rattle.records.proofs.{Joined.length_joined, Puts.put_next}
use Rattle.rules.specs.Chains.{serves, good}
use Rattle.laws.proofs.Tests.{neqb→ne}
use Rattle.explanations.specs.Why.{Line, link_line, lowest, by_id, climb}
use Rattle.explanations.proofs.{LowestId.cond_cases, Climb.length_climb}
use Rattle.reasons.specs.Lines.{line_size, line_bytes, climbed_lines, with_lines, Told}

abbrev bytes_of : List Line → List ℕ
bytes_of ls = joined line_bytes ls

length_lines : (ls : List Line) → length (bytes_of ls) ≡ length ls * line_size
length_lines ls = length_joined line_bytes line_size (λ n. refl) ls

lines_last : (ls : List Line) (n : Line) → bytes_of (ls ++ (n ∷ [])) ≡ bytes_of ls ++ line_bytes n
lines_last [] n = refl
lines_last (m ∷ ls) n = ap (λ l. line_bytes m ++ l) (lines_last ls n)

-- ---- from the first on

-- the lines from the i-th on are still to be told
pub record Left (all : List Line) (out₀ out : List ℕ) (i : ℕ) (rest : List Line) : Type 0 where
  pub told : put out (i * line_size) (bytes_of rest) ≡ with_lines out₀ all
  pub count : i + length rest ≡ length all
  pub room : length out ≡ length out₀

pub left_all : (all : List Line) (out : List ℕ) → Left all out out 0 all
left_all all out = record { told = refl; count = omega arith; room = refl }

module _ (all : List Line) (out₀ out : List ℕ) (i : ℕ) where
  pub left_less : (n : Line) (rest : List Line) → Left all out₀ out i (n ∷ rest) → (i + 1) * line_size ≤ length out₀
      → (out' : List ℕ) → out' ≡ put out (i * line_size) (line_bytes n) → Left all out₀ out' (i + 1) rest
  left_less n rest f h out' e =
      let r : length out ≡ length out₀ = f.room in
      let k : (i + 1) * line_size ≡ i * line_size + length (line_bytes n) = omega arith in
      record {
        told =
            ap₂ (λ o m. put o m (bytes_of rest)) e k
            ∙ put_next out (i * line_size) (line_bytes n) (bytes_of rest) (omega arith)
            ∙ f.told;
        count = omega (arith, f.count);
        room = ap length e ∙ length_put out (i * line_size) (line_bytes n) (omega arith) ∙ r;
      }

  pub left_none : Left all out₀ out i [] → Told all out₀ i out
  left_none f = record { count = omega (arith, f.count); lines = sym (put_none out (i * line_size)) ∙ f.told }

-- one more behind those that stand
pub line_more : (out : List ℕ) (ls : List Line) (n : Line) → put (with_lines out ls) (length ls * line_size) (line_bytes n) ≡ with_lines out (ls ++ (n ∷ []))
line_more out ls n =
    ap (λ k. put (with_lines out ls) k (line_bytes n)) (sym (length_lines ls) ∙ sym (zero-add (length (bytes_of ls))))
    ∙ put_next out 0 (bytes_of ls) (line_bytes n) (omega arith)
    ∙ ap (put out 0) (sym (lines_last ls n))

-- ---- from the last down

put_before : (out us vs : List ℕ) → length us + length vs ≤ length out → put (put out (length us) vs) 0 us ≡ put out 0 (us ++ vs)
unfolding put
put_before out us vs h =
    let rest = drop (length us + length vs) out in
    let k : length (take (length us) out) ≡ length us = length-take-le (length us) out (omega arith) in
    ap (λ l. us ++ drop (0 + length us) l) (append_assoc (take (length us) out) vs rest)
    ∙ ap (λ n. us ++ drop n (take (length us) out ++ (vs ++ rest))) (zero-add (length us))
    ∙ ap (λ l. us ++ l) (drop_at (take (length us) out) (vs ++ rest) (length us) k)
    ∙ sym (append_assoc us vs rest)
    ∙ ap (λ n. us ++ vs ++ drop n out) (sym (zero-add (length (us ++ vs)) ∙ length-append us vs))

module _ (t : Trust) (d : ℕ) where
  pub length_chain : (n k : ℕ) → length (climbed_lines t d n k) ≡ n
  length_chain n k = simp (length-map, length-reverse) (length_climb n t d k)

  climbs : (n k : ℕ) → let c = lowest (serves (good (suc n) t) d k) 0 t.certificates in
      climbed_lines t d (suc n) k ≡ climbed_lines t d n c.verifying ++ (link_line c ∷ [])
  unfolding climb
  climbs n k =
      let c = lowest (serves (good (suc n) t) d k) 0 t.certificates in
      ap (map link_line) (reverse-cons c (climb n t d c.verifying)) ∙ map-append link_line (reverse (climb n t d c.verifying)) (c ∷ [])

  chain_more : (n k : ℕ) (c : Certificate) (out : List ℕ) → c ≡ lowest (serves (good (suc n) t) d k) 0 t.certificates → suc n * line_size ≤ length out
      → with_lines (put out (n * line_size) (line_bytes (link_line c))) (climbed_lines t d n c.verifying) ≡ with_lines out (climbed_lines t d (suc n) k)
  chain_more n k c out e h =
      let ls = climbed_lines t d n c.verifying in
      let m : n * line_size ≡ length (bytes_of ls) = omega (arith, length_lines ls, length_chain n c.verifying) in
      ap (λ m. with_lines (put out m (line_bytes (link_line c))) ls) m
      ∙ put_before out (bytes_of ls) (line_bytes (link_line c)) (omega arith)
      ∙ ap (put out 0) (sym (lines_last ls (link_line c)))
      ∙ ap (with_lines out) (ap (λ c. climbed_lines t d n c.verifying ++ (link_line c ∷ [])) e ∙ sym (climbs n k))

  -- the one chosen with m links left stands behind the lines of those above it
  pub chain_next : (n m k : ℕ) (c : Certificate) (out : List ℕ) → suc n ≡ m → c ≡ lowest (serves (good (n + 1) t) d k) 0 t.certificates
      → m * line_size ≤ length out → {out' : List ℕ} → out' ≡ put out (n * line_size) (line_bytes (link_line c))
      → with_lines out' (climbed_lines t d n c.verifying) ≡ with_lines out (climbed_lines t d m k)
  chain_next n m k c out s e h w =
      ap (λ o. with_lines o (climbed_lines t d n c.verifying)) w
      ∙ chain_more n k c out (subst (λ m. c ≡ lowest (serves (good m t) d k) 0 t.certificates) (add-one n) e) (omega arith)
      ∙ ap (λ m. with_lines out (climbed_lines t d m k)) s

  pub chain_none : (n k : ℕ) (out : List ℕ) → n ≤ 0 → out ≡ with_lines out (climbed_lines t d n k)
  unfolding climb
  chain_none n k out h = let z : 0 ≡ n = omega arith in subst (λ n. out ≡ with_lines out (climbed_lines t d n k)) z (sym (put_none out 0))

-- ---- the records by id, c the lowest above n

module _ (t : Certificate → Bool) (l : List Certificate) (n : ℕ) (c : Certificate) (e : c ≡ lowest t n l) where
  pub by_id_more : (k m : ℕ) → suc k ≡ m → c.id ≢ 0 → by_id m t n l ≡ c ∷ by_id k t c.id l
  unfolding by_id
  by_id_more k m s nz =
      ap (λ m. by_id m t n l) (sym s)
      ∙ cond_cases (λ a. a ≡ lowest t n l ∷ by_id k t (lowest t n l).id l) (eqb (lowest t n l).id 0) [] _
      (λ z. absurd (nz (ap (λ c. c.id) e ∙ eqb→eq (lowest t n l).id 0 z))) (λ z. refl)
      ∙ ap (λ c. c ∷ by_id k t c.id l) (sym e)

  pub by_id_ends : (k : ℕ) → c.id ≡ 0 → by_id k t n l ≡ []
  unfolding by_id
  by_id_ends zero z = refl
  by_id_ends (suc k) z =
      cond_cases (λ a. a ≡ []) (eqb (lowest t n l).id 0) [] _ (λ y. refl)
      (λ y. absurd (neqb→ne (lowest t n l).id 0 y (ap (λ c. c.id) (sym e) ∙ z)))
