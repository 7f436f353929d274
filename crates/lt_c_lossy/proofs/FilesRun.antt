-- Files that were emitted for all nodes are the code whose runs show the program's streams.
use Rattle.std.proofs.Common.{◌≡◌, ℕ, ◌<◌, List, length, sym, subst, arith}
use Rattle.lt_arch.specs.declared.timing.Protocol.TheVariants.{BackPressure}
use Rattle.lt_arch.specs.declared.pace.Pace.TheVariants.{Lossy}
use Rattle.lt_arch.specs.Readers.{node_count}
use Rattle.lt_norm.specs.Flat.{Originated}
use Rattle.lt_net_node.specs.Channels.{FitsLayout}
use Rattle.lt_net_node.proofs.LayoutShape.{shapes_fit}
use Rattle.lt_c_control.specs.declared.posts.Post.{Post}
use Rattle.lt_c_net.specs.Emitted.{NodeCode}
use Rattle.lt_c_bodies.specs.Acts.{posts_of}
use Rattle.lt_c_files.specs.FileNodes.{code_of_file}
use Rattle.lt_c_files.proofs.Coded.{files_are_nodes}
use Rattle.lt_c_lossy.specs.Losing.{IsLosingNode}
use Rattle.lt_c_lossy.specs.LosingRuns.{LosingDeployment}
use Rattle.lt_c_lossy.specs.LosingWholeRuns.{IsDeployedLosing}
use Rattle.lt_c_lossy.specs.LosingFileRuns.{RunsLosingText, RunsLosingTexts, LosingFilesRunWhole}
use Rattle.lt_c_lossy.proofs.PostsKept.{files_keep_crossings}
use Rattle.lt_c_lossy.proofs.Running.{lossy_run_is_whole}

module _ (f : Originated) (losses : ℕ) (d : LosingDeployment) (texts : ℕ → List ℕ) (is : RunsLosingTexts f losses d texts) where
  fits : FitsLayout d.base.layout BackPressure d.base.shape
  fits = (shapes_fit f d.base.layout BackPressure d.base.shape is.placed is.paced.shaped).0

  coded : (n : ℕ) → n < node_count d.base.shape → IsLosingNode d.base.layout d.base.shape n (d.base.nodes n) (d.posts n)
  coded n lt =
      let r : RunsLosingText d losses n (texts n) = is.texts_are n lt in
      let inside : n < length d.base.layout.nodes = let e = fits.channels.nodes in omega (arith, e, lt) in
      let here : IsLosingNode d.base.layout d.base.shape n (code_of_file r.emitted.file) (posts_of r.emitted.file.links.receivers) = record {
        emitted = files_are_nodes f d.base.layout d.base.shape d.base.timing (Lossy losses) n r.emitted.file is.placed fits.channels inside r.emitted.is_file;
        keeps = files_keep_crossings f d.base.layout d.base.shape n r.emitted.file.links.receivers is.placed is.paced.shaped inside r.emitted.is_file.links.receivers;
      } in
      let by_code : IsLosingNode d.base.layout d.base.shape n (d.base.nodes n) (posts_of r.emitted.file.links.receivers) =
      subst (λ (node : NodeCode). IsLosingNode d.base.layout d.base.shape n node (posts_of r.emitted.file.links.receivers)) (sym r.code) here in
      subst (λ (posts : List Post). IsLosingNode d.base.layout d.base.shape n (d.base.nodes n) posts) (sym r.posts) by_code

  deployed : IsDeployedLosing f losses d
  deployed = record { placed = is.placed; paced = is.paced; timed = is.timed; fit = is.fit; counted = is.counted; coded = coded }

pub losing_files_run_whole : LosingFilesRunWhole
losing_files_run_whole f losses d texts is = lossy_run_is_whole f losses d (deployed f losses d texts is)
