-- Of all chains as short, the one that is climbed comes first in the order of ids. Assumes nothing.
use Prim.Native.Nat.{ℕ}
use mathlib.Core.{List.List, Logic.◌≢◌, Path.{◌≡◌, sym, ap, subst, ◌∙◌}}
use lib.{Dec.T, ListN.length}
use Rattle.records.specs.{Phone.Trust, declared.Card.Card, declared.Certificate.Certificate}
use Rattle.rules.specs.{Chains.{good, links}, Explicit.{Root, Issued, Chain, ends, goes_on}}
use Rattle.laws.proofs.{Tests.tests, Distinct.alone, Keys.served, Accepted.Held}
use Rattle.explanations.specs.{Why.{climb, chain_told}, Claims.NotAfter}
use Rattle.explanations.proofs.Climb.{choice, Serving, served_by, choice_least, choice_serves}

module _ (cards : List Card) (t : Trust) (h : Held cards t.certificates) (d : ℕ) (trusted : d ≢ 0) where
  -- each record of a chain serves within its length
  root_serving : (k : ℕ) (r : Root t d k) → Serving cards t h d trusted 0 k r.certificate
  unfolding good
  root_serving k r = record { mem = r.mem; domain = r.domain; key = r.key; good = search tests }

  issued_serving : (n k v : ℕ) (s : Issued t d k v) → T (served n t d v) → Serving cards t h d trusted n k s.certificate
  unfolding good
  issued_serving n k v s u =
      let w : T (served n t s.certificate.domain s.certificate.verifying) = rw (s.domain, s.verifying) u in
      record { mem = s.mem; domain = s.domain; key = s.key; good = search tests }

  chain_served : {k : ℕ} {l : List Certificate} → Chain t d k l → T (served (length l) t d k)
  chain_served (ends {k} r) = served_by cards t h d trusted 0 k r.certificate (root_serving k r)
  chain_served (goes_on {k} {v} {l} s c) = served_by cards t h d trusted (length l) k s.certificate (issued_serving (length l) k v s (chain_served c))

  climb_foremost : {k : ℕ} {l : List Certificate} → Chain t d k l → NotAfter (climb (length l) t d k) l
  unfolding climb
  climb_foremost (ends {k} r) = ((choice_least cards t h d trusted 0 k r.certificate (root_serving k r)).1, λ e. tt)
  climb_foremost (goes_on {k} {v} {l} s c) =
      let n = length l in
      let serving = issued_serving n k v s (chain_served c) in
      let low = choice_least cards t h d trusted n k s.certificate serving in
      let it = choice_serves cards t h d trusted n k (served_by cards t h d trusted n k s.certificate serving) in
      let same : (choice cards t h d trusted n k).id ≡ s.certificate.id → choice cards t h d trusted n k ≡ s.certificate =
      alone (λ c. c.id) t.certificates h.ids (choice cards t h d trusted n k) s.certificate it.mem s.mem low.0 in
      (low.1, λ e. subst (λ k. NotAfter (climb n t d k) l) (sym (ap (λ c. c.verifying) (same e) ∙ s.verifying)) (climb_foremost c))

  pub told_foremost : (k : ℕ) (l : List Certificate) → Chain t d k l → length l ≡ links t k d → NotAfter (chain_told t d k) l
  unfolding chain_told
  told_foremost k l c e = subst (λ n. NotAfter (climb n t d k) l) e (climb_foremost c)
