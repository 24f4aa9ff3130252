-- The lines that give a reason: each names a stored record with the key and its first true reason, and no record is missed. Assumes nothing.
use Prim.Native.Nat.{◌≤◌, ◌<◌}
use mathlib.Core.Bool.{not}
use mathlib.Core.List.Memᴰ
use mathlib.Core.List.{List, [], ◌∷◌, Memᴰ, reverse, map}
use mathlib.Core.{Logic.{◌≢◌, ◌⊎◌, inl, inr}, Path.{◌≡◌, refl, sym, ap, subst, ◌∙◌}}
use native.Mathlib.Omega.{arith}
use lib.Dec.{T, eqb, eqb→eq}
use Rattle.records.specs.{Phone.Trust, declared.Card.Card, declared.Certificate.Certificate, declared.Executable.Executable}
use Rattle.rules.specs.Chains.{chain_domain}
use Rattle.laws.proofs.{Tests.{eq→eqb, neqb→ne, not_elim}, Lists.any_in, Accepted.Held}
use Rattle.explanations.specs.Why.{Line, has_key, holders, its_domain, its_chain, reasons, reason, link_line, reason_line, untrusted_line, chained}
use Rattle.explanations.specs.Why.{unsigned, held, despite, chain_lines, reason_lines, explained}
use Rattle.explanations.specs.Claims.{Refusal}
use Rattle.explanations.proofs.{LowestId.cond_cases, Reasons.{first_is, reason_some}, Holders.{holders_out, holders_in}}
use Rattle.explanations.proofs.Cases.{explained_cases, explained_reasons}

-- what the lines of an executable that chains say is no reason
chain_what : (t : Trust) (x : Executable) (n : Line) → Memᴰ n (chain_lines t x) → n.what < 10
unfolding despite
chain_what t x n m = go (Memᴰ.append_cases (map link_line (reverse (its_chain t x))) m)
  where
    last : Memᴰ n (despite x) → n.what < 10
    last =
        cond_cases (λ l. Memᴰ n l → n.what < 10) (eqb x.domain 0) (untrusted_line x ∷ []) []
        (λ z m. omega (arith, ap (λ n. n.what) (Memᴰ.eq_of_singleton m))) (λ z m. absurd (Memᴰ.not-nil m))

    go : Memᴰ n (map link_line (reverse (its_chain t x))) ⊎ Memᴰ n (despite x) → n.what < 10
    go (inl m) = omega (arith, ap (λ n. n.what) (Memᴰ.of_map link_line (reverse (its_chain t x)) m).2)
    go (inr m) = last m

module _ (cards : List Card) (t : Trust) (h : Held cards t.certificates) (x : Executable) where
  -- a reason there always is
  pub refusal_some : T (not (unsigned x)) → T (not (chained t x)) → (c : Certificate) → Memᴰ c t.certificates → c.key ≡ x.signing → reason t c ≢ 0
  unfolding chained unsigned
  refusal_some s n c m e =
      let d = its_domain t x in
      reason_some cards t h c m (λ z. neqb→ne x.signing 0 s (sym e ∙ z)) (ap (chain_domain t) e ∙ eqb→eq d 0 (not_elim (eqb d 0) n))

  refusal_of : T (not (unsigned x)) → T (not (chained t x)) → (n : Line) → Memᴰ n (reason_lines t x) → Refusal t x.signing n
  unfolding reason
  refusal_of s u n m =
      let o = Memᴰ.of_map (reason_line t) (holders t x.signing) m in
      let w = holders_out t x.signing o.0 o.1 in
      subst (λ n. Refusal t x.signing n) o.2
      (record {
        certificate = o.0;
        stored = w.0;
        key = w.1;
        named = refl;
        first = first_is (reasons t o.0) (refusal_some s u o.0 w.0 w.1);
      })

  pub refusal_told : (n : Line) → Memᴰ n (explained t x) → 10 ≤ n.what → Refusal t x.signing n
  refusal_told n =
      explained_cases t x (λ l. Memᴰ n l → 10 ≤ n.what → Refusal t x.signing n)
      (λ c m b. absurd (omega (arith, chain_what t x n m)))
      (λ u m b. absurd (omega (arith, ap (λ n. n.what) (Memᴰ.eq_of_singleton m))))
      (λ s u m b. absurd (omega (arith, ap (λ n. n.what) (Memᴰ.eq_of_singleton m))))
      (λ s y u m b. refusal_of s u n m)

  pub refusal_each : T (not (unsigned x)) → T (not (chained t x)) → (c : Certificate) → Memᴰ c t.certificates → c.key ≡ x.signing
      → Memᴰ (reason_line t c) (explained t x)
  unfolding unsigned held
  refusal_each s n c m e =
      let y = any_in (has_key x.signing) m (eq→eqb c.key x.signing e) in
      subst (λ l. Memᴰ (reason_line t c) l) (sym (explained_reasons t x s y n))
      (Memᴰ.map (reason_line t) (holders_in cards t h x.signing (neqb→ne x.signing 0 s) c m e))
