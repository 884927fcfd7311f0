use Rattle.bx_ready.proofs.Kept.{post_keeps, split_keeps}
use Rattle.bx_ready.proofs.file_laws.splits_and_posts_keep_files.Goals as goal

pub returns-clause-split : goal.returns-clause-split
returns-clause-split c = λ areas held hints truth old new tree handle inode file pages page is holds there at splits.
    split_keeps areas held hints truth old new tree handle inode file pages is holds there at page splits

pub returns-clause-post : goal.returns-clause-post
returns-clause-post c = λ areas held hints truth old new tree handle inode file pages node posted is holds there at posts.
    post_keeps areas held hints truth old new tree handle inode file pages is holds there at node posted posts
