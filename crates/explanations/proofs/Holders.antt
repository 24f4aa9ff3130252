-- `holders` lists the stored records with a key: each, and no other, in order of id. Assumes nothing.
use Prim.Native.Nat.{ℕ, ◌≤◌}
use mathlib.Core.List.Memᴰ
use mathlib.Core.{List.{List, map, Memᴰ}, Logic.◌≢◌, Path.{◌≡◌, refl, sym, ◌∙◌}}
use native.Mathlib.Omega.{arith}
use lib.{ListN.length, Dec.eqb→eq}
use Rattle.records.specs.{Phone.Trust, declared.Card.Card, declared.Certificate.Certificate}
use Rattle.laws.proofs.{Tests.eq→eqb, Distinct.alone, Accepted.Held}
use Rattle.explanations.specs.{Why.{has_key, holders}, Claims.Rising}
use Rattle.explanations.proofs.{ById.{by_id_rising, by_id_small, by_id_found, by_id_all}, Reasons.occupied}

pub holders_rising : (t : Trust) (k : ℕ) → Rising 0 (map (λ c. c.id) (holders t k))
unfolding holders
holders_rising t k = by_id_rising (has_key k) t.certificates (length t.certificates) 0

pub holders_few : (t : Trust) (k : ℕ) → length (holders t k) ≤ length t.certificates
unfolding holders
holders_few t k = by_id_small (has_key k) t.certificates (length t.certificates) 0

pub holders_out : (t : Trust) (k : ℕ) (c : Certificate) → Memᴰ c (holders t k) → Memᴰ c t.certificates × (c.key ≡ k)
unfolding holders
holders_out t k c m =
    let f = by_id_found (has_key k) t.certificates (length t.certificates) 0 c m in
    (f.mem, eqb→eq c.key k f.passes)

-- one with its id is listed, and no other has its id
pub holders_in : (cards : List Card) (t : Trust) → Held cards t.certificates → (k : ℕ) → k ≢ 0
    → (c : Certificate) → Memᴰ c t.certificates → c.key ≡ k → Memᴰ c (holders t k)
unfolding holders
holders_in cards t h k signed c m e =
    let o = occupied cards t h (λ c. c.key) refl c m (λ z. signed (sym e ∙ z)) in
    let g = by_id_all (has_key k) t.certificates 0 c (record { mem = m; passes = eq→eqb c.key k e; above = omega (arith, o.id) }) in
    let one = alone (λ c. c.id) t.certificates h.ids c g.certificate m in
    Memᴰ.cast (one (holders_out t k g.certificate g.mem).0 o.id (sym g.id)) g.mem
