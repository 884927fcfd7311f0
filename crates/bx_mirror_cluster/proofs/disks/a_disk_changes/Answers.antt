use Rattle.bx_mirror_cluster.proofs.DiskChanges.{all_replaced, all_survives, disks_stay, replaced_reads, replaced_settled, replaced_stands, stays_reads, stays_settled, stays_stands, survives_reads, survives_settled, survives_stands}
use Rattle.bx_mirror_cluster.proofs.disks.a_disk_changes.Goals as goal

pub returns : goal.returns
returns c = record {
  survives = λ parts x y past device second keeps down lengths crashes. all_survives parts x y past device second keeps down lengths crashes;
  replaced = λ parts x y past device second keeps down alone lengths others. all_replaced parts x y past device second keeps down alone lengths others;
  survives_standing = λ parts x y past device other second sector content index keeps down lengths crashes stands. survives_stands parts x y past device other second sector content index keeps down lengths crashes stands;
  replaced_standing = λ parts x y past device other second sector content index keeps down alone lengths others stands. replaced_stands parts x y past device other second sector content index keeps down alone lengths others stands;
  survives_settled = λ parts x y past device other second sector content keeps down lengths crashes settled. survives_settled parts x y past device other second sector content keeps down lengths crashes settled;
  replaced_settled = λ parts x y past device other second sector content keeps down alone lengths others settled. replaced_settled parts x y past device other second sector content keeps down alone lengths others settled;
  survives_reads = λ parts x y past device second reader read sector content keeps down lengths crashes will. survives_reads parts x y past device second reader read sector content keeps down lengths crashes will;
  replaced_reads = λ parts x y past device second reader read sector content keeps down alone lengths others will. replaced_reads parts x y past device second reader read sector content keeps down alone lengths others will;
  stays_settled = λ parts x y past other sector content stay settled. stays_settled parts x y past other sector content stay settled;
  stays_standing = λ parts x y past other sector content index stay stands. stays_stands parts x y past other sector content index stay stands;
  stays_reads = λ parts x y past reader read sector content stay will. stays_reads parts x y past reader read sector content stay will;
  stays = λ parts x y past keeps lengths stay. disks_stay parts x y past keeps lengths stay;
}
