-- `demands::few_passes` meets its contract: a lent slice holds bytes. Assumes nothing.
use Rattle.demands.proofs.{Widest.lent_bytes, Passes.what-would-win-few, Passes.decision-margin-few, LiveDemands.live-win-few, LiveDemands.live-margin-few}
use Rattle.demands.proofs.few_passes.Goals as goal

pub returns : goal.returns
returns c =
    let bytes = lent_bytes c.args.bank.now c.type_inv.bank in
    (what-would-win-few _ _ _ _ bytes, decision-margin-few _ _ _ bytes, live-win-few _ _ _ _ bytes, live-margin-few _ _ _ bytes)
