-- 02, item 2: the sentences that `why` prints, as bytes. Definitions only.
use Rattle.std.specs.Prelude.{ℕ, zero, suc, ◌+◌, ◌*◌}
use mathlib.Core.{Bool.cond, List.{List, [], ◌∷◌, ◌++◌}}
use lib.{Dec.eqb, ListN.length}
use Rattle.octets.specs.Octets.{be8, be16, bytes}
use Rattle.rules.specs.Step.{refused_at}
use Rattle.explanations.specs.Why.{Line, line, said_link, said_unsigned, said_unheld, said_untrusted, said_recovery, said_absent, said_invalid, said_disabled}
use Rattle.explanations.specs.Why.{said_past, said_unserved}
use Rattle.reasons.specs.Lines.{line_size, most_lines, why_code, lines_of}
use Rattle.stream.specs.{Decimal.{most_digits, decimal}, Refusal.image_refused}

-- ---- words before a number

-- "certificate "
abbrev pub certificate : List ℕ
certificate = bytes 12 0x6365727469666963617465_20

-- "application "
abbrev pub application : List ℕ
application = bytes 12 0x6170706c69636174696f6e_20

-- "no certificate has the key of application "
abbrev pub key_of_none : List ℕ
key_of_none = bytes 42 0x6e6f_20_6365727469666963617465_20_686173_20_746865_20_6b6579_20_6f66_20_6170706c69636174696f6e_20

-- ---- words behind it

-- the end of a line
abbrev pub ended : List ℕ
ended = bytes 1 0x0a

-- " is a trusted root"
abbrev pub is_a_root : List ℕ
is_a_root = bytes 19 0x20_6973_20_61_20_74727573746564_20_726f6f74_0a

-- " is verified by "
abbrev pub is_verified_by : List ℕ
is_verified_by = bytes 16 0x20_6973_20_7665726966696564_20_6279_20

-- " is untrusted until it is verified"
abbrev pub is_untrusted : List ℕ
is_untrusted = bytes 35 0x20_6973_20_756e74727573746564_20_756e74696c_20_6974_20_6973_20_7665726966696564_0a

-- " is unsigned"
abbrev pub is_unsigned : List ℕ
is_unsigned = bytes 13 0x20_6973_20_756e7369676e6564_0a

-- " is a recovery key"
abbrev pub is_recovery : List ℕ
is_recovery = bytes 19 0x20_6973_20_61_20_7265636f76657279_20_6b6579_0a

-- " is on an absent card"
abbrev pub is_absent : List ℕ
is_absent = bytes 22 0x20_6973_20_6f6e_20_616e_20_616273656e74_20_63617264_0a

-- " is marked invalid"
abbrev pub is_invalid : List ℕ
is_invalid = bytes 19 0x20_6973_20_6d61726b6564_20_696e76616c6964_0a

-- " is disabled"
abbrev pub is_disabled : List ℕ
is_disabled = bytes 13 0x20_6973_20_64697361626c6564_0a

-- " is past its date"
abbrev pub is_past : List ℕ
is_past = bytes 18 0x20_6973_20_70617374_20_697473_20_64617465_0a

-- " has no good signer within three links"
abbrev pub is_unserved : List ℕ
is_unserved = bytes 39 0x20_686173_20_6e6f_20_676f6f64_20_7369676e6572_20_77697468696e_20_7468726565_20_6c696e6b73_0a

-- ---- a sentence

-- a number between its words
abbrev pub about : List ℕ → ℕ → List ℕ → List ℕ
about before n behind = before ++ decimal n ++ behind

-- a link of the chain, by the id of the line above, 0 for the first: "printed root first"
unfoldable pub link_sentence : ℕ → ℕ → List ℕ
link_sentence above n = cond (eqb above 0) (about certificate n is_a_root) (about certificate n is_verified_by ++ about certificate above ended)

-- 02, item 4: "a reason before the others"
-- "on an absent card; marked invalid; disabled; past its date; no good signer within three links"; another number says nothing
unfoldable pub reason_sentence : ℕ → ℕ → List ℕ
reason_sentence what n =
    cond (eqb what said_recovery) (about certificate n is_recovery)
    (cond (eqb what said_absent) (about certificate n is_absent)
    (cond (eqb what said_invalid) (about certificate n is_invalid)
    (cond (eqb what said_disabled) (about certificate n is_disabled)
    (cond (eqb what said_past) (about certificate n is_past)
    (cond (eqb what said_unserved) (about certificate n is_unserved)
    [])))))

-- what a line says, below one with the id `above`
unfoldable pub sentence : ℕ → Line → List ℕ
sentence above n =
    cond (eqb n.what said_link) (link_sentence above n.id)
    (cond (eqb n.what said_unsigned) (about application n.id is_unsigned)
    (cond (eqb n.what said_unheld) (about key_of_none n.id ended)
    (cond (eqb n.what said_untrusted) (about application n.id is_untrusted)
    (reason_sentence n.what n.id))))

-- no sentence is longer: that of a link that another one verifies
abbrev pub longest_sentence : ℕ
longest_sentence = length certificate + most_digits + length is_verified_by + length certificate + most_digits + length ended

-- ---- a page

-- the sentences of lines, the first below one with the id `above`
unfoldable pub page : ℕ → List Line → List ℕ
page above [] = []
page above (n ∷ ls) = sentence above n ++ page n.id ls

-- the i-th line of a buffer, as its three bytes say, and the first n of them
abbrev pub line_at : List ℕ → ℕ → Line
line_at l i = line (be8 l (i * line_size)) (be16 l (i * line_size + 1))

unfoldable pub lines_said : List ℕ → ℕ → List Line
lines_said l zero = []
lines_said l (suc n) = lines_said l n ++ (line_at l n ∷ [])

-- no page is longer
abbrev pub longest_page : ℕ
longest_page = most_lines * longest_sentence

-- ---- the answer

-- "executable 3"
abbrev pub executable_unknown : List ℕ
executable_unknown = bytes 13 0x65786563757461626c65_20_33_0a

-- "Refusals: codes 1 and 3 as in 01"; else the explanation
unfoldable pub answer_text : List ℕ → ℕ → List ℕ
answer_text l n =
    cond (eqb (why_code l n) 1) (image_refused (refused_at l).rule (refused_at l).offset)
    (cond (eqb (why_code l n) 3) executable_unknown
    (page 0 (lines_of l n)))
