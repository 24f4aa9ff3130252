use Rattle.std.proofs.Common.{rules}
use Rattle.opening.proofs.ByParts.{keeps}
use Rattle.opening.proofs.Opens.{breaks_i2, breaks_i3, breaks_i4, breaks_i5, breaks_i6, breaks_i7, opens}
use Rattle.opening.proofs.open_framed.Goals as goal

pub returns-in_err-i2 : goal.returns-in_err-i2
returns-in_err-i2 c = search (rules, keeps, breaks_i2)

pub returns-in_err-i3 : goal.returns-in_err-i3
returns-in_err-i3 c = search (rules, keeps, breaks_i3)

pub returns-in_err-i4 : goal.returns-in_err-i4
returns-in_err-i4 c = search (rules, keeps, breaks_i4)

pub returns-in_err-i5 : goal.returns-in_err-i5
returns-in_err-i5 c = search (rules, keeps, breaks_i5)

pub returns-in_err-i6 : goal.returns-in_err-i6
returns-in_err-i6 c = search (rules, keeps, breaks_i6)

pub returns-in_err-i7 : goal.returns-in_err-i7
returns-in_err-i7 c = search (rules, keeps, breaks_i7)

pub returns : goal.returns
returns c =
    opens _ c.requires.s_value
    (keeps _ c.i2.ensures c.in_ok-i2.was) (keeps _ c.i3.ensures c.in_ok-i3.was) (keeps _ c.i4.ensures c.in_ok-i4.was)
    (keeps _ c.i5.ensures c.in_ok-i5.was) (keeps _ c.i6.ensures c.in_ok-i6.was) (keeps _ c.i7.ensures c.in_ok-i7.was)
    c.requires.framed c.i8.ensures
