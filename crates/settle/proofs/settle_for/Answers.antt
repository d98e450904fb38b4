-- No settle, or one; for a new with v let go before it, and holding again after it what it held.
use Rattle.std.proofs.Common.{refl, rules}
use Rattle.rules.specs.Field.{option_of}
use Rattle.cells.specs.Leaves.{Near}
use Rattle.settle.proofs.Settling.{room_as_is, room_for, settleable_for, still_there, own_near, room_for_new}
use Rattle.settle.proofs.settle_for.Goals as goal

pub returns-then-not-make-clause-room : goal.returns-then-not-make-clause-room
returns-then-not-make-clause-room c = room_as_is c.args.call c.if-not-make.true

pub returns-in_default-clause-room : goal.returns-in_default-clause-room
returns-in_default-clause-room c = room_for c.args.call c.in_default.not-New c.if-not-make.false refl c.settle.ensures.settles

pub settle-requires-2 : goal.settle-requires-2
settle-requires-2 c = settleable_for c.args.call c.in-New.is c.hold.ensures c.requires

pub hold-requires-2 : goal.hold-requires-2
hold-requires-2 c =
    let l = still_there c.args.call _ _ c.in-New.is c.hold.ensures refl c.requires.fits in
    let N : Near (option_of c.held-own.result) = own_near c.args.call c.in-New.is c.held-own.ensures c.requires.fits c.requires in
    search rules

pub returns-clause-room : goal.returns-clause-room
returns-clause-room c =
    let S = c.settle-2.ensures in
    room_for_new c.args.call c.in-New.is c.held-own.ensures c.requires.fits _ c.if-not-make.false c.hold.ensures refl c.hold-2.ensures S.settles
