mod OfRequest
mod Sendable
