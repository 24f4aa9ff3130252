-- What is told of an executable, case by case, and what a refusal is told. Assumes nothing.
use Prim.Native.Nat.{ℕ, ◌+◌, ◌*◌, ◌≤◌}
use mathlib.Core.{Bool.{Bool, true, false, cond, not, ◌||◌}, List.{List, [], ◌∷◌, ◌++◌, append-nil}, Logic.◌≢◌, Path.{◌≡◌, refl, sym, ap, subst, ◌∙◌}}
use native.Mathlib.Omega.{arith}
use borrow.Author.Tests.{eq-eqb, ne_eqb, not-false}
use lib.{Dec.eqb, ListN.{length, length-append, get_or}}
use Rattle.octets.specs.Octets.{put}
use Rattle.octets.proofs.ByteLaws.{put_none}
use Rattle.records.specs.{Phone.{Trust, decode, no_executable}, declared.Executable.Executable}
use Rattle.rules.specs.{declared.Chained.Chained, Words.any, Chains.{chain_domain, chain_of, most_links}, declared.Answer.Answer}
use Rattle.rules.specs.{ImageRules.accepted, Step.{opened, refusal, refused}, Codes.{is_executable, executable_named, executable_known}}
use Rattle.rules.specs.AcceptedImage.{AcceptedImage}
use Rattle.laws.proofs.{Tests.{eq→eqb, ne→neqb, not_intro}, Accepts.true_T, Shortest.links_small, Places.place_named}
use Rattle.std.specs.Prelude.{Option, Some, None, Result, Ok, Err}
use Rattle.sweep.specs.FirstPassing.{found}
use Rattle.lookup.proofs.FoundSlot.{nowhere_none, at_some, at_first}
use Rattle.explanations.specs.Why.{Line, has_key, chain_told, unsigned_line, unheld_line, untrusted_line, chained, unsigned, held, despite, explained}
use Rattle.explanations.specs.Why.{explanation}
use Rattle.explanations.proofs.Cases.{explained_chain, explained_unsigned, explained_unheld, explained_reasons}
use Rattle.reasons.specs.Lines.{line_size, line_bytes, climbed_lines, holder_lines, with_lines, Told, why_code, lines_of, why, Whole}
use Rattle.reasons.proofs.{Rows.{takes, skips, ends, not_is}, LinesPlaced.{length_chain, line_more}}

-- ---- a chain, and what may follow it

module _ (t : Trust) (d n k : ℕ) (x : Executable) (out out' : List ℕ) (w : out' ≡ with_lines out (climbed_lines t d n k)) where
  pub told_trusted : x.domain ≢ 0 → Told (climbed_lines t d n k ++ despite x) out n out'
  unfolding despite
  told_trusted nz = rw (ne_eqb x.domain 0 nz, append-nil) (record { count = sym (length_chain t d n k); lines = w })

  pub told_despite : x.domain ≡ 0 → {out'' : List ℕ} → out'' ≡ put out' (n * line_size) (line_bytes (untrusted_line x))
      → Told (climbed_lines t d n k ++ despite x) out (n + 1) out''
  unfolding despite
  told_despite z v =
      let ls = climbed_lines t d n k in
      let e = length_chain t d n k in
      rw (eq-eqb x.domain 0 z)
      (record {
        count = omega (arith, length-append ls (untrusted_line x ∷ []));
        lines = v ∙ ap (λ o. put o (n * line_size) (line_bytes (untrusted_line x))) w
            ∙ ap (λ m. put (with_lines out ls) (m * line_size) (line_bytes (untrusted_line x))) (sym e) ∙ line_more out ls (untrusted_line x);
      })

-- ---- the cases

pub links_few : (t : Trust) (k : ℕ) {c : Chained} → c ≡ chain_of t k → c.links ≤ most_links
unfolding chain_of
links_few t k e = omega (arith, ap (λ c. c.links) e, links_small t k (chain_domain t k))

module _ (t : Trust) (x : Executable) where
  pub told_as : {ls : List Line} {out out' : List ℕ} {n : ℕ} → explained t x ≡ ls → Told ls out n out' → Told (explained t x) out n out'
  told_as {out} {out'} {n} e w = subst (λ l. Told l out n out') (sym e) w

  module _ (c : Chained) (e : c ≡ chain_of t x.signing) where
    pub told_chained : c.domain ≢ 0 → explained t x ≡ climbed_lines t c.domain c.links x.signing ++ despite x
    unfolding chain_of chained chain_told
    told_chained nz =
        explained_chain t x (ne→neqb (chain_domain t x.signing) 0 (λ z. nz (ap (λ c. c.domain) e ∙ z)))
        ∙ ap (λ c. climbed_lines t c.domain c.links x.signing ++ despite x) (sym e)

    pub told_refused : c.domain ≡ 0 → x.signing ≢ 0 → {b : Bool} → b ≡ any (has_key x.signing) t.certificates → not b ≡ false
        → explained t x ≡ holder_lines t x.signing
    unfolding chain_of chained unsigned held
    told_refused z s {b} q h =
        let d = chain_domain t x.signing in
        explained_reasons t x (ne→neqb x.signing 0 s) (true_T _ (sym q ∙ not-false b h)) (not_intro (eqb d 0) (eq→eqb d 0 (ap (λ c. c.domain) (sym e) ∙ z)))

  pub told_unsigned : x.signing ≡ 0 → explained t x ≡ unsigned_line x ∷ []
  unfolding unsigned
  told_unsigned z = explained_unsigned t x (eq→eqb x.signing 0 z)

  pub told_unheld : x.signing ≢ 0 → {b : Bool} → b ≡ any (has_key x.signing) t.certificates → not b ≡ true → explained t x ≡ unheld_line x ∷ []
  unfolding unsigned held
  told_unheld s q h = explained_unheld t x (ne→neqb x.signing 0 s) (true_T _ (not_is q h))

-- ---- the code

module _ (l : List ℕ) (n : ℕ) where
  broken : accepted l ≡ false → 1 ≡ why_code l n
  unfolding why_code
  broken h = takes _ _ _ (ap not h)

  module _ (h : accepted l ≡ true) where
    whole : not (accepted l) ≡ false
    whole = ap not h

    no_id : n ≡ 0 → 3 ≡ why_code l n
    unfolding why_code
    no_id z = skips _ _ _ whole (takes _ _ _ (ap (λ b. b || not (executable_known (decode l) n)) (eq-eqb n 0 z)))

    module _ {f : Option ℕ} (q : f ≡ found (is_executable n) (decode l).executables) (nz : n ≢ 0) where
      known_is : {b : Bool} → any (is_executable n) (decode l).executables ≡ b → (eqb n 0 || not (executable_known (decode l) n)) ≡ not b
      unfolding executable_known
      known_is e = ap (λ b. b || not (executable_known (decode l) n)) (ne_eqb n 0 nz) ∙ ap not e

      unknown : f ≡ None → 3 ≡ why_code l n
      unfolding why_code
      unknown h = skips _ _ _ whole (takes _ _ _ (known_is (nowhere_none (is_executable n) (decode l).executables q h)))

      known : {i : ℕ} → f ≡ Some i → 0 ≡ why_code l n
      unfolding why_code
      known h = skips _ _ _ whole (skips _ _ _ (known_is (at_some (is_executable n) (decode l).executables q h)) ends)

      named : {i : ℕ} → f ≡ Some i → {x : Executable} → x ≡ get_or (decode l).executables i no_executable
          → {out out' : List ℕ} {k : ℕ} → Told (explained (decode l).trust x) out k out' → Told (explanation (decode l) n) out k out'
      unfolding explanation executable_named
      named h e {out} {out'} {k} w =
          let first = at_first (is_executable n) (decode l).executables q h in
          subst (λ x. Told (explained (decode l).trust x) out k out') (place_named (is_executable n) (decode l).executables first refl no_executable e) w

-- ---- the answer, where there is room for every line

module _ (l : List ℕ) (n : ℕ) (out : List ℕ) where
  -- what is told where the code is c
  abbrev lines_for : ℕ → List Line
  lines_for c = cond (eqb c 0) (explanation (decode l) n) []

  abbrev answer_for : ℕ → Result ℕ Answer
  answer_for c = cond (eqb c 0) (Ok (length (lines_for c))) (Err (refusal l c))

  answered : (c : ℕ) → c ≡ why_code l n → {r : Result ℕ Answer} {out' : List ℕ} → r ≡ answer_for c → out' ≡ with_lines out (lines_for c) → Whole l n out r out'
  unfolding lines_of why
  answered c e q w = record { answer = q ∙ ap answer_for e; told = w ∙ ap (λ c. with_lines out (lines_for c)) e }

  pub told_broken : accepted l ≡ false → {a : Answer} → a ≡ opened l → Whole l n out (Err a) out
  unfolding refusal opened
  told_broken h t = answered 1 (broken l n h) (ap Err (t ∙ rw h)) (sym (put_none out 0))

  module _ (ok : AcceptedImage l) where
    refused_unknown : {a : Answer} → 3 ≡ why_code l n → a ≡ refused 3 → Whole l n out (Err a) out
    unfolding refusal
    refused_unknown e q = answered 3 e (ap Err q) (sym (put_none out 0))

    pub told_no_id : n ≡ 0 → {a : Answer} → a ≡ refused 3 → Whole l n out (Err a) out
    told_no_id z = refused_unknown (no_id l n ok.accepted z)

    module _ {f : Option ℕ} (q : f ≡ found (is_executable n) (decode l).executables) (nz : n ≢ 0) where
      pub told_unknown : f ≡ None → {a : Answer} → a ≡ refused 3 → Whole l n out (Err a) out
      told_unknown h = refused_unknown (unknown l n ok.accepted q nz h)

      pub told_known : {i : ℕ} → f ≡ Some i → {x : Executable} → x ≡ get_or (decode l).executables i no_executable
          → {k : ℕ} {out' : List ℕ} → Told (explained (decode l).trust x) out k out' → Whole l n out (Ok k) out'
      told_known h e w =
          let t = named l n ok.accepted q nz h e w in
          answered 0 (known l n ok.accepted q nz h) (ap Ok t.count) t.lines
