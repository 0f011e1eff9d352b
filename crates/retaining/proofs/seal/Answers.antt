-- The call S: a refusal leaves everything; in a line with a window `close` does the rest, in another the seal is all.
use Rattle.std.proofs.Common.{◌≡◌, Err, arith}
use Rattle.retaining.proofs.Closing
use Rattle.retaining.proofs.Sealing
use Rattle.retaining.proofs.seal.Goals as goal

pub returns-in_err-s : goal.returns-in_err-s
returns-in_err-s c =
    let gone : c.from_residual.result ≡ Err c.in_err-s.field-0.0 = grind arith in
    let both = Sealing.refused_left c.requires.0 _ c.in_err-s.field-0.0 c.args.out.now c.in_err-s.ensures in record {
      reply = rw gone both.0;
      tables = both.1.0;
      out = both.1.1;
    }

pub overflow_add-s : goal.overflow_add-s
overflow_add-s c =
    omega (arith, Sealing.slot_below c.requires.0 _ _ _ c.in_ok-s.ensures, c.requires.0.roomy.inside.records_most)

pub offset_bounds-t-s : goal.offset_bounds-t-s
offset_bounds-t-s c =
    omega (arith, Sealing.slot_below c.requires.0 _ _ _ c.in_ok-s.ensures, c.requires.0.roomy.inside.records_most)

pub bounds-t-s : goal.bounds-t-s
bounds-t-s c =
    omega (arith, Sealing.slot_below c.requires.0 _ _ _ c.in_ok-s.ensures, c.requires.0.roomy.room, c.requires.0.roomy.inside.records_most)

pub seal_at-requires : goal.seal_at-requires
seal_at-requires c =
    let closes = Sealing.closes_so c.requires.0 _ _ _ c.in_ok-s.ensures _ c.wide-window.ensures in
    let rules = Closing.seal_needs c.requires.0 _ _ _ closes in
    (c.requires.0, rules.0, rules.1, rules.2, rules.3, rules.4, rules.5)

pub returns-then-window-eq0 : goal.returns-then-window-eq0
returns-then-window-eq0 c =
    let out = c.args.out.now in
    let made = c.seal_at.ensures in
    let window = c.wide-window.ensures in
    let closes = Sealing.closes_so c.requires.0 _ _ _ c.in_ok-s.ensures _ window in
    let both = Sealing.closed_left c.requires.0 _ _ _ c.in_ok-s.ensures _ window _ _ out _
    (Closing.bare_left c.requires.0 _ _ _ closes _ made.is c.if-window-eq0.true out c.requires.1 _ made.number) in record {
      reply = both.0;
      tables = both.1.0;
      out = both.1.1;
    }

pub close-requires : goal.close-requires
close-requires c = (
  c.requires.0,
  c.requires.1,
  Sealing.closes_so c.requires.0 _ _ _ c.in_ok-s.ensures _ c.wide-window.ensures,
  omega (arith, c.if-window-eq0.false),
)

pub returns : goal.returns
returns c =
    let both = Sealing.closed_left c.requires.0 _ _ _ c.in_ok-s.ensures _ c.wide-window.ensures _ _ c.args.out.now _
    (c.close.ensures.reply, (c.close.ensures.tables, c.close.ensures.out)) in record {
      reply = both.0;
      tables = both.1.0;
      out = both.1.1;
    }
