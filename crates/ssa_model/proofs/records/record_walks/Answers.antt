use Rattle.ssa_model.proofs.RecordWalks.{cuts_are_filtered, leaves_are_filtered, orders_are_filtered, puts_are_filtered, record_below_is}
use Rattle.ssa_model.proofs.records.record_walks.Goals as goal

pub returns : goal.returns
returns c = record { cut = cuts_are_filtered; leaves = leaves_are_filtered; orders = orders_are_filtered; put = puts_are_filtered; below = record_below_is }
