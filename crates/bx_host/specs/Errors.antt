-- What an error of a link is to a server.
use Rattle.bx_outside.specs.declared.link.LinkError.{LinkError}
use Rattle.bx_outside.specs.declared.link.LinkError.TheVariants as links
use Rattle.bx_host.specs.declared.error.HostError.{HostError}
use Rattle.bx_host.specs.declared.error.HostError.TheVariants as errors

abbrev pub error_of : LinkError → HostError
error_of links.Fault = errors.Link
error_of links.OutOfMemory = errors.OutOfMemory
