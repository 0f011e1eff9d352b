-- The call N: a refusal leaves everything, and an accepted call does what the model says.
use mathlib.Core.Path.{ap, ◌∙◌}
use Prim.Native.Nat.{◌-◌}
use Rattle.std.proofs.Common.{◌≡◌, Err, arith}
use Rattle.naming.specs.Rows.{count_up}
use Rattle.naming.proofs.Replies.{refuse_reply, refuse_tables}
use Rattle.naming.proofs.Attaching
use Rattle.naming.proofs.attach.Goals as goal

pub put_title-requires : goal.put_title-requires
put_title-requires c =
    let told = c.in_ok-i.ensures in (
      omega (arith, c.requires.0.roomy.room),
      Attaching.attach_low _ _ _ _ c.requires.0 _ told,
      omega (arith, c.requires.1.1, c.requires.0.roomy.inside.records_most),
      Attaching.attach_short _ _ _ _ c.requires.0 _ told,
    )

pub overflow_sub-link : goal.overflow_sub-link
overflow_sub-link c =
    omega (arith, Attaching.attach_link _ _ _ _ c.requires.0 _ c.in_ok-i.ensures _ c.requires.1.0)

pub count_up-requires : goal.count_up-requires
count_up-requires c =
    let told = c.in_ok-i.ensures in
    let made = c.put_title.ensures in (
      rw made (Attaching.attach_room _ _ _ _ c.requires.0 _ told _ c.requires.1.0),
      omega (
        arith,
        c.requires.1.1,
        c.requires.0.roomy.inside.records_most,
        Attaching.attach_link _ _ _ _ c.requires.0 _ told _ c.requires.1.0,
      ),
      rw made (Attaching.attach_counts _ _ _ _ c.requires.0 _ told _ c.requires.1.0),
    )

pub returns-in_err-i : goal.returns-in_err-i
returns-in_err-i c =
    let e = Attaching.attach_refused _ _ _ _ _ c.in_err-i.ensures in
    let gone : c.from_residual.result ≡ Err c.in_err-i.field-0.0 = grind arith in
    record {
      reply = rw gone (refuse_reply _ _ _ c.in_err-i.field-0.0 e);
      tables = refuse_tables _ _ _ e;
    }

pub returns : goal.returns
returns c =
    let told = c.in_ok-i.ensures in
    record {
      reply = Attaching.attach_replied _ _ _ _ c.requires.0 _ told;
      tables = c.count_up.ensures ∙ ap (λ u. count_up u (c.args.link - 1)) c.put_title.ensures ∙
          Attaching.attach_tables _ _ _ _ c.requires.0 _ told _ c.requires.1.0;
    }
