-- That the boundaries of the worked run hold, computed from the bytes of the image and of the events. Assumes nothing.
use Rattle.std.specs.Prelude.{get_or}
use mathlib.Core.{List.{List, ◌∷◌, map}, Path.{◌≡◌, refl, ap, ◌∙◌}}
use Rattle.octets.specs.Octets.{put}
use Rattle.rules.specs.{declared.Answer.Answer, Computing.computing}
use Rattle.rules.specs.WorkedRun.{lines, run_as_printed, others, boundaries, untold, heard}

-- the answers of a run that are boundaries, and others behind them: so the run is worked out once
abbrev seven : List Answer → List Answer → List Answer
seven run others =
    get_or run 0 untold ∷ get_or run 2 untold ∷ get_or run 4 untold ∷ get_or run 5 untold
    ∷ get_or run 7 untold ∷ get_or run 10 untold ∷ get_or run 12 untold ∷ others

others_hold : map heard others ≡ map (λ b. b.expected) others
unfolding computing put
others_hold = refl

-- "These .. are shown to hold for the written rules, as one list under one claim."
pub boundaries_hold : map heard boundaries ≡ map (λ b. b.expected) boundaries
boundaries_hold = ap (λ run. seven run (map heard others)) run_as_printed ∙ ap (seven lines) others_hold
