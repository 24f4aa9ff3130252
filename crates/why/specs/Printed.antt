-- What `why` prints, computed: of images of 01, and a sentence of each kind. Assumes nothing.
use mathlib.Core.{List.{[], ◌∷◌, ◌++◌}, Path.{◌≡◌, refl}}
use Rattle.std.specs.Prelude.{take}
use Rattle.octets.specs.Octets.{bytes, put}
use Rattle.rules.specs.{Step.run, WorkedRun.{image, events, chains_image}}
use Rattle.explanations.specs.Why.{line, said_link, said_unsigned, said_unheld, said_untrusted, said_recovery, said_absent, said_invalid, said_disabled}
use Rattle.explanations.specs.Why.{said_past, said_unserved}
use Rattle.explanations.specs.WorkedExplanations.{telling}
use Rattle.reasons.specs.Lines.{why_code, lines_of}
use Rattle.stream.specs.{Decimal.{places_within, decimal}, Refusal.image_refused}
use Rattle.why.specs.SentenceText.{link_sentence, reason_sentence, sentence, page, answer_text}

-- every definition that a page goes by, under one name
unfoldable pub printing : Unit {0}
unfolding telling put why_code lines_of places_within decimal image_refused link_sentence reason_sentence sentence page answer_text
printing = tt

-- ---- answers

-- "certificate 10 is a trusted root", "certificate 11 is verified by certificate 10"
pub trusted : answer_text image 1
    ≡ bytes 33 0x6365727469666963617465_20_3130_20_6973_20_61_20_74727573746564_20_726f6f74_0a
    ++ bytes 45 0x6365727469666963617465_20_3131_20_6973_20_7665726966696564_20_6279_20_6365727469666963617465_20_3130_0a
unfolding printing
trusted = refl

-- "certificate 11 is past its date": the worked run after four events
pub expired : answer_text (run image (take 4 events)) 1
    ≡ bytes 32 0x6365727469666963617465_20_3131_20_6973_20_70617374_20_697473_20_64617465_0a
unfolding printing
expired = refl

-- each by the one above it, and the last line behind the chain
pub four_links : answer_text chains_image 1
    ≡ bytes 32 0x6365727469666963617465_20_31_20_6973_20_61_20_74727573746564_20_726f6f74_0a
    ++ bytes 43 0x6365727469666963617465_20_32_20_6973_20_7665726966696564_20_6279_20_6365727469666963617465_20_31_0a
    ++ bytes 43 0x6365727469666963617465_20_33_20_6973_20_7665726966696564_20_6279_20_6365727469666963617465_20_32_0a
    ++ bytes 43 0x6365727469666963617465_20_34_20_6973_20_7665726966696564_20_6279_20_6365727469666963617465_20_33_0a
    ++ bytes 48 0x6170706c69636174696f6e_20_31_20_6973_20_756e74727573746564_20_756e74696c_20_6974_20_6973_20_7665726966696564_0a
unfolding printing
four_links = refl

-- "executable 3": an id that no executable has, and 0
pub unknown : answer_text image 2
    ≡ bytes 13 0x65786563757461626c65_20_33_0a
unfolding printing
unknown = refl

pub free_slot : answer_text image 0
    ≡ bytes 13 0x65786563757461626c65_20_33_0a
unfolding printing
free_slot = refl

-- "image 1 4 88": an id that stands twice
pub refused : answer_text (put image 88 (0 ∷ 10 ∷ [])) 1
    ≡ bytes 13 0x696d616765_20_31_20_34_20_3838_0a
unfolding printing
refused = refl

-- ---- a sentence of each kind

-- "certificate 10 is a trusted root"
pub root : sentence 0 (line said_link 10)
    ≡ bytes 33 0x6365727469666963617465_20_3130_20_6973_20_61_20_74727573746564_20_726f6f74_0a
unfolding printing
root = refl

-- "certificate 65535 is verified by certificate 10"
pub verified : sentence 10 (line said_link 65535)
    ≡ bytes 48 0x6365727469666963617465_20_3635353335_20_6973_20_7665726966696564_20_6279_20_6365727469666963617465_20_3130_0a
unfolding printing
verified = refl

-- "application 1 is untrusted until it is verified"
pub untrusted : sentence 10 (line said_untrusted 1)
    ≡ bytes 48 0x6170706c69636174696f6e_20_31_20_6973_20_756e74727573746564_20_756e74696c_20_6974_20_6973_20_7665726966696564_0a
unfolding printing
untrusted = refl

-- "application 1 is unsigned"
pub unsigned : sentence 0 (line said_unsigned 1)
    ≡ bytes 26 0x6170706c69636174696f6e_20_31_20_6973_20_756e7369676e6564_0a
unfolding printing
unsigned = refl

-- "no certificate has the key of application 1"
pub unheld : sentence 0 (line said_unheld 1)
    ≡ bytes 44 0x6e6f_20_6365727469666963617465_20_686173_20_746865_20_6b6579_20_6f66_20_6170706c69636174696f6e_20_31_0a
unfolding printing
unheld = refl

-- "certificate 40 is a recovery key"
pub recovery : sentence 0 (line said_recovery 40)
    ≡ bytes 33 0x6365727469666963617465_20_3430_20_6973_20_61_20_7265636f76657279_20_6b6579_0a
unfolding printing
recovery = refl

-- "certificate 21 is on an absent card"
pub absent : sentence 0 (line said_absent 21)
    ≡ bytes 36 0x6365727469666963617465_20_3231_20_6973_20_6f6e_20_616e_20_616273656e74_20_63617264_0a
unfolding printing
absent = refl

-- "certificate 10 is marked invalid"
pub invalid : sentence 0 (line said_invalid 10)
    ≡ bytes 33 0x6365727469666963617465_20_3130_20_6973_20_6d61726b6564_20_696e76616c6964_0a
unfolding printing
invalid = refl

-- "certificate 30 is disabled"
pub disabled : sentence 0 (line said_disabled 30)
    ≡ bytes 27 0x6365727469666963617465_20_3330_20_6973_20_64697361626c6564_0a
unfolding printing
disabled = refl

-- "certificate 11 is past its date"
pub past : sentence 0 (line said_past 11)
    ≡ bytes 32 0x6365727469666963617465_20_3131_20_6973_20_70617374_20_697473_20_64617465_0a
unfolding printing
past = refl

-- "certificate 12 has no good signer within three links"
pub unserved : sentence 0 (line said_unserved 12)
    ≡ bytes 53 0x6365727469666963617465_20_3132_20_686173_20_6e6f_20_676f6f64_20_7369676e6572_20_77697468696e_20_7468726565_20_6c696e6b73_0a
unfolding printing
unserved = refl
