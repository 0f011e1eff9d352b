-- `name`: each arm is one call of a name; what it is not lent stays.
use mathlib.Core.Path.{refl}
use Rattle.engine.proofs.Untouched.{out_stays, tables_stay, name_link, of_name}
use Rattle.engine.proofs.names.name.Goals as goal

pub attach-requires : goal.attach-requires
attach-requires c =
    (c.requires.0, name_link c.args.g c.args.t.now c.args.bytes.now c.in-Attach.is c.args.link c.requires.2)

pub returns-in-Attach : goal.returns-in-Attach
returns-in-Attach c =
    let a = c.args in
    let e = c.attach.ensures in
    let both = of_name a.g a.t.now a.out.now a.bytes.now c.in-Attach.is _ _ _
    (e.reply _, (e.tables, out_stays a.g a.t.now _ a.out.now refl)) in record {
      reply = both.0;
      tables = both.1.0;
      out = both.1.1;
    }

pub returns-in-Detach : goal.returns-in-Detach
returns-in-Detach c =
    let a = c.args in
    let e = c.detach.ensures in
    let both = of_name a.g a.t.now a.out.now a.bytes.now c.in-Detach.is _ _ _
    (e.reply _, (e.tables, out_stays a.g a.t.now _ a.out.now refl)) in record {
      reply = both.0;
      tables = both.1.0;
      out = both.1.1;
    }

pub returns-in-Resolve : goal.returns-in-Resolve
returns-in-Resolve c =
    let a = c.args in
    let e = c.resolve.ensures in
    let both = of_name a.g a.t.now a.out.now a.bytes.now c.in-Resolve.is _ _ _
    (e.reply, (tables_stay a.g a.t.now _ c.requires.0 refl refl, e.out)) in record {
      reply = both.0;
      tables = both.1.0;
      out = both.1.1;
    }
