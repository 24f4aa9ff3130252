-- Damaged images and where they are said to be wrong, computed. Assumes nothing.
use Rattle.std.specs.Prelude.{ℕ}
use mathlib.Core.{List.{List, [], ◌∷◌, ◌++◌, map}, Path.{◌≡◌, refl}}
use Rattle.std.specs.Prelude.{take, drop}
use Rattle.octets.specs.Octets.{put}
use Rattle.rules.specs.{declared.Site.Site, Computing.computing, WorkedRun.image, Faults.{fault, fault_offset}}

-- an image, and what is told of it: rule, site, byte
record Case : Type 0 where
  bytes : List ℕ
  rule : ℕ
  site : Site
  byte : ℕ

abbrev wrong : List ℕ → ℕ → Site → ℕ → Case
wrong l r s n = record { bytes = l; rule = r; site = s; byte = n }

-- 01's image with bytes put at a place
abbrev damaged : ℕ → List ℕ → List ℕ
damaged i v = put image i v

-- the same with certificate 20, of slot 2, in slot 3 as well
abbrev doubled : List ℕ
doubled = damaged 112 (take 24 (drop 88 image))

abbrev cases : List Case
cases =
    wrong image 0 (Site.Header 0) 0
    ∷ wrong [] 1 (Site.Header 0) 0
    ∷ wrong (take 39 image) 1 (Site.Header 39) 39
    ∷ wrong (take 183 image) 1 (Site.Header 36) 36
    ∷ wrong (image ++ (0 ∷ [])) 1 (Site.Header 36) 36
    ∷ wrong (damaged 0 (0 ∷ 2 ∷ [])) 1 (Site.Header 0) 0
    ∷ wrong (damaged 8 (0 ∷ 0 ∷ [])) 1 (Site.Header 8) 8
    ∷ wrong (damaged 14 (0 ∷ 1 ∷ [])) 1 (Site.Header 14) 14
    ∷ wrong (damaged 24 (0 ∷ 0 ∷ 0 ∷ 137 ∷ [])) 1 (Site.Header 24) 24
    -- a certificate's kind is 3; it is 2, and the record is marked valid and has a verifying key
    ∷ wrong (damaged 68 (3 ∷ [])) 2 (Site.Certificate 1) 64
    ∷ wrong (damaged 68 (2 ∷ [])) 2 (Site.Certificate 1) 64
    -- a card present that is not in the table, a place that is not, a number that stands twice, and a card's blank
    ∷ wrong (damaged 12 (0 ∷ 3 ∷ [])) 3 (Site.Header 12) 12
    ∷ wrong (damaged 90 (0 ∷ 3 ∷ [])) 3 (Site.Certificate 2) 88
    ∷ wrong (damaged 144 (0 ∷ 1 ∷ [])) 3 (Site.Certificate 2) 88
    ∷ wrong (damaged 146 (0 ∷ 1 ∷ [])) 3 (Site.Card 1) 144
    -- an id that stands twice; one that does, behind a wrong owner, which is an earlier record and a later part of the rule
    ∷ wrong (damaged 88 (0 ∷ 10 ∷ [])) 4 (Site.Certificate 2) 88
    ∷ wrong doubled 4 (Site.Certificate 3) 112
    ∷ wrong (put doubled 104 (0 ∷ 0 ∷ 0 ∷ 1 ∷ [])) 4 (Site.Certificate 2) 88
    -- two valid operator roots on the phone; one there, with a card of another operator
    ∷ wrong (damaged 90 (0 ∷ 0 ∷ [])) 5 (Site.Certificate 2) 88
    ∷ wrong (damaged 12 (0 ∷ 2 ∷ [])) 5 (Site.Certificate 0) 40
    ∷ wrong (damaged 180 (3 ∷ [])) 6 (Site.Row 1) 180
    -- what untrusted applications may with permission an operator's never may
    ∷ wrong (damaged 180 (1 ∷ 0 ∷ 2 ∷ 2 ∷ [])) 6 (Site.Row 1) 180
    ∷ wrong (damaged 164 (0 ∷ 1 ∷ [])) 7 (Site.Executable 1) 164
    ∷ wrong (damaged 154 (2 ∷ [])) 8 (Site.Executable 0) 152
    ∷ []

abbrev found : Case → Case
found c = wrong c.bytes (fault c.bytes).rule (fault c.bytes).site (fault_offset c.bytes)

pub places : map found cases ≡ cases
unfolding computing put
places = refl
