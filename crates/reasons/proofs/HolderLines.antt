-- The lines of the records with a key, one a turn: what is left of them shrinks. Assumes nothing.
use Prim.Native.Nat.{ℕ, suc, ◌+◌, ◌*◌, ◌-◌, ◌≤◌, ◌<◌}
use mathlib.Core.{List.{List, [], map}, Logic.◌≢◌, Path.{◌≡◌, sym, ap, subst, ◌∙◌}}
use native.{Mathlib.Nat.sub-zero, Mathlib.Omega.arith}
use lib.ListN.{length}
use Rattle.octets.specs.Octets.{put}
use Rattle.records.specs.{Phone.Trust, declared.Certificate.Certificate}
use Rattle.explanations.specs.Why.{line, has_key, lowest, by_id, holders, reason, reason_line}
use Rattle.reasons.specs.Lines.{line_size, line_bytes, most_lines, holder_lines, Told}
use Rattle.reasons.proofs.LinesPlaced.{Left, left_all, left_less, left_none, by_id_more, by_id_ends}

module _ (t : Trust) (key : ℕ) where
  -- the records of which nothing is told yet are l, and the i-th line is the next
  abbrev pub Untold : List ℕ → List ℕ → ℕ → List Certificate → Type 0
  Untold out₀ out i l = Left (holder_lines t key) out₀ out i (map (reason_line t) l)

  -- of so many slots, what is left after i turns
  abbrev pub rest_of : ℕ → ℕ → ℕ → List Certificate
  rest_of slots above i = by_id (slots - i) (has_key key) above t.certificates

  pub rest_all : (out : List ℕ) (slots : ℕ) → slots ≡ length t.certificates → Untold out out 0 (rest_of slots 0 0)
  unfolding holders
  rest_all out slots e =
      subst (λ n. Untold out out 0 (by_id n (has_key key) 0 t.certificates)) (sym (sub-zero slots ∙ e)) (left_all (holder_lines t key) out)

  module _ (out₀ out : List ℕ) (slots above i : ℕ) (f : Untold out₀ out i (rest_of slots above i)) where
    told_all : rest_of slots above i ≡ [] → Told (holder_lines t key) out₀ i out
    told_all e = left_none (holder_lines t key) out₀ out i (subst (Untold out₀ out i) e f)

    pub rest_none : slots ≤ i → Told (holder_lines t key) out₀ i out
    unfolding by_id
    rest_none h = let z : slots - i ≡ 0 = omega arith in told_all (ap (λ n. by_id n (has_key key) above t.certificates) z)

    -- and i is their number
    pub rest_ended : i ≡ slots → Told (holder_lines t key) out₀ slots out
    rest_ended h = subst (λ n. Told (holder_lines t key) out₀ n out) h (rest_none (omega arith))

    module _ (c : Certificate) (e : c ≡ lowest (has_key key) above t.certificates) where
      pub rest_stops : c.id ≡ 0 → Told (holder_lines t key) out₀ i out
      rest_stops z = told_all (by_id_ends (has_key key) t.certificates above c e (slots - i) z)

      pub rest_goes_on : c.id ≢ 0 → i < slots → slots ≤ most_lines → most_lines * line_size ≤ length out₀ → {r : ℕ} → r ≡ reason t c
          → {out' : List ℕ} → out' ≡ put out (i * line_size) (line_bytes (line r c.id)) → Untold out₀ out' (i + 1) (rest_of slots c.id (i + 1))
      rest_goes_on nz h few room {r} q {out'} w =
          let s : suc (slots - (i + 1)) ≡ slots - i = omega arith in
          let one = by_id_more (has_key key) t.certificates above c e (slots - (i + 1)) (slots - i) s nz in
          left_less (holder_lines t key) out₀ out i (reason_line t c) (map (reason_line t) (rest_of slots c.id (i + 1)))
          (subst (Untold out₀ out i) one f)
          (omega arith) out' (w ∙ ap (λ r. put out (i * line_size) (line_bytes (line r c.id))) q)
