use Rattle.suite.specs.Of.{ledger}
use Rattle.suite.proofs.Batches.{batch_removable}
use Rattle.suite.proofs.Judged.{no_faults, settled_20, settled_13, settled_addable, settled}
use Rattle.suite.proofs.book.settle.Goals as goal

pub returns-then-is_out_of_step : goal.returns-then-is_out_of_step
returns-then-is_out_of_step g c =
    let L = ledger g.P.ReadPlan g.P.ChangePlan g.R.Register c.args.plan.now c.args.register.now in
    settled_20 L c.args.changes.now c.args.found.coming.now c.args.found.going.now c.args.new.now c.args.lapsed.now c.requires.ready c.requires.fits c.if-is_out_of_step.ensures

pub returns-then-wants_places : goal.returns-then-wants_places
returns-then-wants_places g c =
    let L = ledger g.P.ReadPlan g.P.ChangePlan g.R.Register c.args.plan.now c.args.register.now in
    settled_13 L c.args.changes.now c.args.found.coming.now c.args.found.going.now c.args.new.now c.args.lapsed.now c.requires.ready c.requires.fits c.if-is_out_of_step.ensures c.if-wants_places.ensures

pub withdraw_all-requires : goal.withdraw_all-requires
withdraw_all-requires g c =
    let L = ledger g.P.ReadPlan g.P.ChangePlan g.R.Register c.args.plan.now c.args.register.now in
    let cs = c.args.changes.now in
    batch_removable L.keys L.doors L.rows cs c.requires.ready.ascends (no_faults L cs 0 0 c.requires.ready.fine)

pub permit_all-requires : goal.permit_all-requires
permit_all-requires g c =
    let p = g.P.ReadPlan in
    let s = g.P.ChangePlan.spare in
    let L = ledger p g.P.ChangePlan g.R.Register c.args.plan.now c.args.register.now in
    let x = c.withdraw_all.new.plan in
    let e = c.withdraw_all.ensures in
    settled_addable L c.args.changes.now c.args.found.coming.now c.args.found.going.now c.args.new.now c.args.lapsed.now c.requires.ready c.requires.fits c.if-is_out_of_step.ensures c.if-wants_places.ensures
    (p.keys x) (p.doors x) (s x) (p.keys x) (p.doors x) (s x) (p.rows x) (p.rows x) e.keys e.doors e.rows e.spare

pub returns : goal.returns
returns g c =
    let p = g.P.ReadPlan in
    let s = g.P.ChangePlan.spare in
    let r = g.R.Register in
    let L = ledger p g.P.ChangePlan r c.args.plan.now c.args.register.now in
    let x = c.withdraw_all.new.plan in
    let y = c.permit_all.new.plan in
    let u = c.strike_all.new.register in
    let v = c.enter_all.new.register in
    let e = c.withdraw_all.ensures in
    let f = c.permit_all.ensures in
    settled L c.args.changes.now c.args.found.coming.now c.args.found.going.now c.args.new.now c.args.lapsed.now c.requires.ready c.requires.fits c.if-is_out_of_step.ensures c.if-wants_places.ensures
    (p.keys x) (p.doors x) (s x) (p.keys y) (p.doors y) (s y) (p.rows x) (p.rows y) e.keys e.doors e.rows e.spare
    f.keys f.doors f.rows f.spare (r.held u) (r.held v) (r.spare u) (r.spare v) (r.ascending c.args.register.now)
    c.strike_all.ensures.held c.strike_all.ensures.spare c.enter_all.ensures.held c.enter_all.ensures.spare
    c.copy_over.new.list c.copy_over-2.new.list c.copy_over.ensures c.copy_over-2.ensures
