-- A history owns nothing, so it may go to another thread.
use denote.Param.Send.{IsSend}
use Rattle.cone_pool.specs.contracts.history.History.{the_row}

pub send : IsSend the_row
send = record { owned = λ d vs. ((λ vss. (tt, tt)), tt); leaving = λ k d w. tt }
