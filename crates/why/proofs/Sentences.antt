-- A sentence: word by word, by what is said, and how long it is. Assumes nothing.
use Prim.Native.Nat.{ℕ, ◌+◌, ◌≤◌}
use mathlib.Core.{Bool.{Bool, true, false, cond}, List.{List, ◌++◌}, Path.{◌≡◌}}
use native.Mathlib.Omega.{arith}
use lib.{Dec.eqb, ListN.{length, length-append}}
use Rattle.explanations.specs.Why.{Line, said_link, said_unsigned, said_unheld, said_untrusted, said_recovery, said_absent, said_invalid, said_disabled}
use Rattle.explanations.specs.Why.{said_past, said_unserved}
use Rattle.stream.specs.Decimal.{most_digits, decimal}
use Rattle.stream.proofs.{Texts.decimal_small, JoinedTexts.{Put, then}}
use Rattle.why.specs.SentenceText.{certificate, application, key_of_none, ended, is_a_root, is_verified_by, is_untrusted, is_unsigned, is_recovery}
use Rattle.why.specs.SentenceText.{is_absent, is_invalid, is_disabled, is_past, is_unserved, about, link_sentence, reason_sentence, sentence}
use Rattle.why.specs.SentenceText.{longest_sentence}

-- ---- a number between its words

pub about_put : (l : List ℕ) (at : ℕ) (before : List ℕ) (n : ℕ) (behind : List ℕ) → at ≤ length l → {p q r : List ℕ} {i j e : ℕ}
    → Put l at before p i → Put p i (decimal n) q j → Put q j behind r e → Put l at (about before n behind) r e
about_put l at before n behind h a b c =
    then l at (before ++ decimal n) behind h (then l at before (decimal n) h a b) c

about_small : (before : List ℕ) (n : ℕ) (behind : List ℕ) → length (about before n behind) ≤ length before + most_digits + length behind
about_small before n behind = let h = decimal_small n in simp length-append (omega arith)

-- where it ends at the latest
pub about_ends : (before : List ℕ) (n : ℕ) (behind : List ℕ) (at : ℕ) {r : ℕ} → r ≡ at + length (about before n behind)
    → r ≤ at + (length before + most_digits + length behind)
about_ends before n behind at e = let h = about_small before n behind in omega arith

-- ---- how long

abbrev Short : List ℕ → Type 0
Short text = length text ≤ longest_sentence

short : (b : Bool) (x y : List ℕ) → Short x → Short y → Short (cond b x y)
short true x y h k = h
short false x y h k = k

-- words that have room for one number
brief : (before : List ℕ) (n : ℕ) (behind : List ℕ) → length before + length behind ≤ 61 → length (about before n behind) ≤ longest_sentence
brief before n behind h = let s = about_small before n behind in omega arith

link_small : (above n : ℕ) → length (link_sentence above n) ≤ longest_sentence
unfolding link_sentence
link_small above n =
    let first = about_small certificate n is_verified_by in
    let second = about_small certificate above ended in
    let both = length-append (about certificate n is_verified_by) (about certificate above ended) in
    short (eqb above 0) _ _ (brief certificate n is_a_root (omega arith)) (omega (arith, first, second, both))

reason_small : (w n : ℕ) → length (reason_sentence w n) ≤ longest_sentence
unfolding reason_sentence
reason_small w n =
    short (eqb w said_recovery) _ _ (brief certificate n is_recovery (omega arith))
    (short (eqb w said_absent) _ _ (brief certificate n is_absent (omega arith))
    (short (eqb w said_invalid) _ _ (brief certificate n is_invalid (omega arith))
    (short (eqb w said_disabled) _ _ (brief certificate n is_disabled (omega arith))
    (short (eqb w said_past) _ _ (brief certificate n is_past (omega arith))
    (short (eqb w said_unserved) _ _ (brief certificate n is_unserved (omega arith)) (omega arith))))))

pub sentence_small : (above : ℕ) (n : Line) → length (sentence above n) ≤ longest_sentence
unfolding sentence
sentence_small above n =
    short (eqb n.what said_link) _ _ (link_small above n.id)
    (short (eqb n.what said_unsigned) _ _ (brief application n.id is_unsigned (omega arith))
    (short (eqb n.what said_unheld) _ _ (brief key_of_none n.id ended (omega arith))
    (short (eqb n.what said_untrusted) _ _ (brief application n.id is_untrusted (omega arith))
    (reason_small n.what n.id))))
