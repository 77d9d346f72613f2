use Rattle.ulfm_log.proofs.Foreign.{own_affair, not_foreign}
use Rattle.ulfm_rank.proofs.law.own_affairs_alone.Goals as goal

pub returns : goal.returns
returns c me group log k d = (own_affair me group log k d, not_foreign me group log k d)
